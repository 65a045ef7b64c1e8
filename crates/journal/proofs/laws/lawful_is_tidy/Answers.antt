use Rattle.journal.proofs.Stands.{lawful_tidy, own_is_tidy, own_places}
use Rattle.journal.proofs.laws.lawful_is_tidy.Goals as goal

pub returns-clause-found : goal.returns-clause-found
returns-clause-found c = lawful_tidy

pub returns-clause-own : goal.returns-clause-own
returns-clause-own c = own_is_tidy

pub returns-clause-places : goal.returns-clause-places
returns-clause-places c = own_places
