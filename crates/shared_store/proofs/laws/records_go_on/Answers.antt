use Rattle.store_locks.proofs.Pieces.{ends_at_entries, places_stay}
use Rattle.shared_store.proofs.laws.records_go_on.Goals as goal

pub returns-clause-end : goal.returns-clause-end
returns-clause-end c = ends_at_entries

pub returns-clause-stays : goal.returns-clause-stays
returns-clause-stays c = places_stay
