use Rattle.combine.proofs.Listed.{as_listed, chains_of_one}
use Rattle.combine.proofs.laws.combined_directories_are_chains.Goals as goal

pub returns-clause-listed : goal.returns-clause-listed
returns-clause-listed c = as_listed

pub returns-clause-accepted : goal.returns-clause-accepted
returns-clause-accepted c = chains_of_one
