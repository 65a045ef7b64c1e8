use Rattle.wal_writer.proofs.Tears.{entries_kept, settled_held}
use Rattle.wal_writer.proofs.laws.stops_keep_entries.Goals as goal

pub returns-clause-moments : goal.returns-clause-moments
returns-clause-moments c = entries_kept

pub returns-clause-settled : goal.returns-clause-settled
returns-clause-settled c = settled_held
