use Rattle.store_core.proofs.Holds.{machines_keep}
use Rattle.store_core.proofs.laws.machines_keep_their_facts.Goals as goal

pub returns : goal.returns
returns c = machines_keep
