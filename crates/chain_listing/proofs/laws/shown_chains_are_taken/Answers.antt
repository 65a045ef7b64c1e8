use Rattle.chain_listing.proofs.Taken.{full_first, priors_before}
use Rattle.chain_listing.proofs.laws.shown_chains_are_taken.Goals as goal

pub returns-clause-first : goal.returns-clause-first
returns-clause-first c = full_first

pub returns-clause-behind : goal.returns-clause-behind
returns-clause-behind c = priors_before
