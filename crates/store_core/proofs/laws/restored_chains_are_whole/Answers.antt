use Rattle.store_core.proofs.Holds.{chains_whole}
use Rattle.store_core.proofs.laws.restored_chains_are_whole.Goals as goal

pub returns : goal.returns
returns c = chains_whole
