use Rattle.std.proofs.Common.{arith}
use Rattle.wal_pages.proofs.Pieces.{flat_piece}
use Rattle.wal_pages.proofs.cutting.push_flat.Goals as goal

pub returns : goal.returns
returns c = grind (
  arith,
  flat_piece,
  c.push_filled.ensures,
  c.behind.ensures,
  c.min-from.ensures,
  c.requires.behind,
  c.requires.first,
  c.requires.page,
  c.requires.order,
  c.flat_before.ensures.number,
  c.segment.ensures.range,
)
