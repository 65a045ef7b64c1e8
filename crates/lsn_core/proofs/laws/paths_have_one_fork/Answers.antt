use Rattle.lsn_core.proofs.ForkPaths.{one_place}
use Rattle.lsn_core.proofs.laws.paths_have_one_fork.Goals as goal

pub returns : goal.returns
returns c = one_place
