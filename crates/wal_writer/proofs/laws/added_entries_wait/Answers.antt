use Rattle.wal_writer.proofs.Waiting.{waits_more}
use Rattle.wal_writer.proofs.laws.added_entries_wait.Goals as goal

pub returns : goal.returns
returns c = waits_more
