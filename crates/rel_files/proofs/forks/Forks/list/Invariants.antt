use Rattle.std.proofs.Common.{◌≡◌, ℕ, ◌<◌, ◌≤◌, true, false, [], get_or, IsSome}
use Rattle.std.specs.FinMap.{contains_key}
use Rattle.lsn_core.specs.declared.ids.ForkId.{ForkId}
use Rattle.lsn_core.specs.Names.{fork_path_bytes, IsNamed}
use Rattle.lsn_core.specs.Store.{Store}
use Rattle.lsn_core.specs.Shown.{Turns}
use Rattle.vault.specs.Frame.{OnlyReads}
use Rattle.rel_files.specs.Shown.{HoldsStore, KeepsOthers}
use Rattle.rel_files.specs.Inside.{known_length}
use Rattle.rel_files.proofs.forks.Forks.list.Given as goal

abbrev pub invariant-loop-name : goal.invariant-loop-name
invariant-loop-name g l = record {
  held : Turns (HoldsStore g.V.Vault) l.fn.self l.self (λ s. s);
  reads : OnlyReads g.V.Vault l.fn.self.area l.self.area;
  kept : KeepsOthers g.V.Vault l.fn.self l.self;
  learned : (k : ℕ) → k < l.name-index → (s : Store) → HoldsStore g.V.Vault l.fn.self s → (fork : ForkId) → IsNamed fork 0 → get_or l.name-items k [] ≡ fork_path_bytes fork 0 false → contains_key s fork ≡ true → IsSome (known_length l.self.known fork);
  later : g.V.Vault.faults l.fn.self.area ≤ g.V.Vault.faults l.self.area;
}
