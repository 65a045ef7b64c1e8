use Rattle.wal_pages.proofs.Pieces.{bytes_stand}
use Rattle.wal_pages.proofs.laws.entry_bytes_stand_in_order.Goals as goal

pub returns : goal.returns
returns c = bytes_stand
