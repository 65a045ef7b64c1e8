use Rattle.wal_archive.proofs.Left.{left_kept}
use Rattle.wal_archive.proofs.laws.left_is_kept.Goals as goal

pub returns : goal.returns
returns c = left_kept
