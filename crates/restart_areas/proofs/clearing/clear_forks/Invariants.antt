use Rattle.std.proofs.Common.{ℕ, length, IfSome}
use Rattle.vault.specs.Frame.{ChangesOnly}
use Rattle.rel_files.specs.Forks.{IsForkPath}
use Rattle.restart_areas.proofs.Among.{AreAmong}
use Rattle.restart_areas.proofs.clearing.clear_forks.Given as goal

abbrev pub invariant-loop-name : goal.invariant-loop-name
invariant-loop-name g l = record {
  among : IfSome (g.V.Vault.files l.area) (AreAmong l.names.items);
  changes : ChangesOnly g.V.Vault IsForkPath l.fn.area l.area;
}

abbrev pub decreases-loop-name : goal.decreases-loop-name
decreases-loop-name g l = length l.names.items
