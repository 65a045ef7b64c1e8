use Rattle.std.proofs.Common.{◌≡◌, ◌≤◌, false, drop, length}
use Rattle.std.specs.List.{list_any}
use Rattle.chain_files.specs.Paths.{is_slash}
use Rattle.chain_files.proofs.paths.cut_last.Given as goal

-- no slash was seen
abbrev pub invariant-loop-left : goal.invariant-loop-left
invariant-loop-left l = record {
  within : l.left ≤ length l.path;
  flat : list_any is_slash (drop l.left l.path) ≡ false;
}

abbrev pub decreases-loop-left : goal.decreases-loop-left
decreases-loop-left l = l.left
