use Rattle.journal.proofs.Flushes.{kept_wal}
use Rattle.journal.proofs.laws.kept_is_wal.Goals as goal

pub returns : goal.returns
returns c = kept_wal
