use Rattle.wal_writer.proofs.Waiting.{flushed_is_read}
use Rattle.wal_writer.proofs.laws.flushed_entries_are_read.Goals as goal

pub returns : goal.returns
returns c = flushed_is_read
