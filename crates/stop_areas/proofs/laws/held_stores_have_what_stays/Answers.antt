use Rattle.stop_areas.proofs.Found.{left_held}
use Rattle.stop_areas.proofs.Held.{held_left}
use Rattle.stop_areas.proofs.laws.held_stores_have_what_stays.Goals as goal

pub returns-clause-left : goal.returns-clause-left
returns-clause-left c = held_left

pub returns-clause-held : goal.returns-clause-held
returns-clause-held c = left_held
