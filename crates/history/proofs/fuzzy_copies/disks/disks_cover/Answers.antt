use Rattle.history.proofs.fuzzy_copies.Covering.{lagging}
use Rattle.history.proofs.fuzzy_copies.disks.disks_cover.Goals as goal

pub returns : goal.returns
returns c = lagging
