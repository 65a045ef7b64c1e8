use Rattle.std.proofs.Common.{◌≡◌, ◌+◌, ◌-◌, ◌≤◌, ◌<◌, length}
use Rattle.wal_writer.specs.Stops.{Leaves, WritesBetween}
use Rattle.wal_writer.proofs.WritesOn.{WritesOn}
use Rattle.wal_writer.proofs.pieces.write_pieces.Given as goal

abbrev pub invariant-loop-rest : goal.invariant-loop-rest
invariant-loop-rest g l = record {
  behind : l.fn.at ≤ l.from;
  whole : 0 < length l.rest → l.from + length l.rest ≡ l.fn.at + length l.fn.bytes;
  on : WritesOn l.size l.fn.at l.fn.bytes l.from l.rest (g.V.Vault.files l.fn.area)
      (g.V.Vault.files l.area);
  left : Leaves l.size l.fn.at (length l.fn.bytes - length l.rest) (g.V.Vault.files l.fn.area)
      (g.V.Vault.files l.area);
  short : length l.rest ≤ length l.fn.bytes;
  frame : WritesBetween g.V.Vault l.size l.fn.at (l.fn.at + length l.fn.bytes) l.fn.area l.area;
}

abbrev pub decreases-loop-rest : goal.decreases-loop-rest
decreases-loop-rest g l = length l.rest
