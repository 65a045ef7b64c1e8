use Rattle.std.proofs.Common.{◌≡◌, ◌≤◌, ◌%◌}
use Rattle.file_sums.proofs.lanes.piece_for.Given as goal

abbrev pub invariant-loop-place : goal.invariant-loop-place
invariant-loop-place l = record {
  blocks : l.piece % 64 ≡ 0;
  most : l.piece ≤ l.most;
}
