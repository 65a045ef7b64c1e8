use Rattle.std.proofs.Common.{◌≤◌}
use Rattle.vault.specs.Frame.{Adds, ChangesOnly}
use Rattle.rel_files.specs.Events.{IsFileRemoval}
use Rattle.rel_files.specs.Forks.{IsForkPath}
use Rattle.rel_files.specs.Inside.{RemovesFrom}
use Rattle.rel_files.proofs.cutting.AnyCutting.remove_files.Given as goal

abbrev pub invariant-loop-end : goal.invariant-loop-end
invariant-loop-end g l = record {
  order : l.first ≤ l.end;
  held : RemovesFrom g.V.Vault l.relseg l.fork l.end l.initial.end l.fn.self l.self;
  frame : ChangesOnly g.V.Vault IsForkPath l.fn.self l.self;
  events : Adds (IsFileRemoval l.fork l.first) (g.V.Vault.past l.fn.self) (g.V.Vault.past l.self);
  later : g.V.Vault.faults l.fn.self ≤ g.V.Vault.faults l.self;
}

abbrev pub decreases-loop-end : goal.decreases-loop-end
decreases-loop-end g l = l.end
