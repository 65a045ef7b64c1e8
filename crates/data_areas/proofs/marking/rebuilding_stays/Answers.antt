-- Calls on other files leave the mark.
use Rattle.vault.proofs.Moments.{mark_stands}
use Rattle.data_areas.specs.Marking.{rebuilding_name}
use Rattle.data_areas.proofs.marking.rebuilding_stays.Goals as goal

pub returns : goal.returns
returns g = mark_stands rebuilding_name
