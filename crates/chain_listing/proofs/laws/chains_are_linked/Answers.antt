use Rattle.chain_listing.proofs.Linked.{chains_linked}
use Rattle.chain_listing.proofs.laws.chains_are_linked.Goals as goal

pub returns : goal.returns
returns c = chains_linked
