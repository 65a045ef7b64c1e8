use Rattle.std.proofs.Common.{◌-◌, length}
use Rattle.wal_reader.proofs.wal_pieces.Piecing.{HasPiece}
use Rattle.wal_reader.proofs.wal_pieces.piece.read_piece.Given as goal

-- the cursor gave the entries so far
abbrev pub invariant-loop-alloc : goal.invariant-loop-alloc
invariant-loop-alloc g l = HasPiece g.V.Vault l.settings l.fn.from.0 l.upto l.most l.fn.area l.area l.cursor l.entries.items

abbrev pub decreases-loop-alloc : goal.decreases-loop-alloc
decreases-loop-alloc g l = l.most - length l.entries.items
