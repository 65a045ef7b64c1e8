use Rattle.std.proofs.Common.{◌++◌, List, length}
use Rattle.combine.specs.Combined.{other_rows}
use Rattle.combine.specs.Inside.{AreTargets}
use Rattle.directory_files.specs.declared.targets.Target.{Target}
use Rattle.combine.proofs.targets.targets_of.Given as goal

-- with those of the rows that are left they are those of all
abbrev pub invariant-loop-row : goal.invariant-loop-row
invariant-loop-row l = record {
  so_far : (more : List Target) → AreTargets (other_rows l.left) more → AreTargets (other_rows l.rows) (l.targets.items ++ more);
}

abbrev pub decreases-loop-row : goal.decreases-loop-row
decreases-loop-row l = length l.left
