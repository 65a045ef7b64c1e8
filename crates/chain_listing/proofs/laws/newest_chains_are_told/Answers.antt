use Rattle.chain_listing.proofs.Newest.{found_reaches, found_newest}
use Rattle.chain_listing.proofs.laws.newest_chains_are_told.Goals as goal

pub returns-clause-reaches : goal.returns-clause-reaches
returns-clause-reaches c = found_reaches

pub returns-clause-newest : goal.returns-clause-newest
returns-clause-newest c = found_newest
