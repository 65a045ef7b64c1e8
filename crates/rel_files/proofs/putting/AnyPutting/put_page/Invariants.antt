use Rattle.std.proofs.Common.{◌≡◌, ◌≤◌, ◌<◌}
use Rattle.lsn_core.specs.Store.{Store}
use Rattle.vault.specs.Frame.{Adds, ChangesOnly}
use Rattle.rel_files.specs.Events.{IsPut}
use Rattle.rel_files.specs.Forks.{IsForkPath}
use Rattle.rel_files.specs.Inside.{Held, whole_length}
use Rattle.rel_files.proofs.Filling.{HoldsFilled}
use Rattle.rel_files.proofs.putting.AnyPutting.put_page.Given as goal

abbrev pub invariant-loop-block : goal.invariant-loop-block
invariant-loop-block g l = record {
  filled : l.count ≤ l.at.block → (s : Store) → Held g.V.Vault l.relseg l.fn.self s → l.count ≡ whole_length s l.at.fork → HoldsFilled l.relseg (g.V.Vault.files l.self) s l.at.fork l.block l.at.block;
  idle : l.at.block < l.count → l.self ≡ l.fn.self;
  frame : ChangesOnly g.V.Vault IsForkPath l.fn.self l.self;
  events : Adds (IsPut l.relseg l.count l.at) (g.V.Vault.past l.fn.self) (g.V.Vault.past l.self);
  later : g.V.Vault.faults l.fn.self ≤ g.V.Vault.faults l.self;
}
