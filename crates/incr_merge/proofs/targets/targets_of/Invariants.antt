use Rattle.std.proofs.Common.{◌++◌, List, length}
use Rattle.chain_files.specs.Told.{chain_told, ArePlaces, AllOnlyRead}
use Rattle.directory_files.specs.Relisted.{other_rows}
use Rattle.directory_files.specs.declared.targets.Target.{Target}
use Rattle.incr_merge.specs.Inside.{AreTargets}
use Rattle.incr_merge.proofs.targets.targets_of.Given as goal

-- with those of the rows that are left they are those of all
abbrev pub invariant-loop-row : goal.invariant-loop-row
invariant-loop-row g l = record {
  places : ArePlaces (length l.areas) l.places;
  reads : AllOnlyRead g.V.Vault l.fn.areas l.areas;
  so_far : (more : List Target) → AreTargets (chain_told g.V.Vault l.fn.areas l.places) (other_rows l.left) more → AreTargets (chain_told g.V.Vault l.fn.areas l.places) (other_rows l.rows) (l.targets.items ++ more);
}

abbrev pub decreases-loop-row : goal.decreases-loop-row
decreases-loop-row g l = length l.left
