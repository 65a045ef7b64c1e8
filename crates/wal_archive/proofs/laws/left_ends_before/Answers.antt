use Rattle.wal_archive.proofs.Left.{left_top}
use Rattle.wal_archive.proofs.laws.left_ends_before.Goals as goal

pub returns : goal.returns
returns c = left_top
