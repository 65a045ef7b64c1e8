use Rattle.rel_files.proofs.WholeStores.{nothing_is_held}
use Rattle.rel_files.proofs.laws.empty_areas_hold_nothing.Goals as goal

pub returns : goal.returns
returns c = nothing_is_held
