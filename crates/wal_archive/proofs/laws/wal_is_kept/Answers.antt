use Rattle.wal_archive.proofs.Read.{wal_kept}
use Rattle.wal_archive.proofs.laws.wal_is_kept.Goals as goal

pub returns : goal.returns
returns c = wal_kept
