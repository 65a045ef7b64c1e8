use Rattle.stop_areas.proofs.Held.{durable_left, more_left}
use Rattle.stop_areas.proofs.laws.synced_files_have_what_stays.Goals as goal

pub returns-clause-durable : goal.returns-clause-durable
returns-clause-durable c = durable_left

pub returns-clause-more : goal.returns-clause-more
returns-clause-more c = more_left
