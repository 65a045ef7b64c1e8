-- An empty fork made among the files of an output.
use Rattle.std.proofs.Common.{◌≡◌, ℕ, ◌<◌, false, List, [], Option, Some, None, is_some, Result, Ok, Err, OnOk, refl, sym, subst}
use Rattle.std.specs.Option.{option_map}
use Rattle.std.specs.FinMap.{get, contains_key}
use Rattle.lsn_core.specs.Blocks.{with_fork}
use Rattle.lsn_core.specs.Files.{Files}
use Rattle.lsn_core.specs.Names.{fork_path_bytes, IsNamed}
use Rattle.lsn_core.specs.Store.{Store, ForkPages}
use Rattle.lsn_core.specs.declared.ids.ForkId.{ForkId}
use Rattle.vault.specs.Area.{after_write}
use Rattle.rel_files.specs.Forks.{Holds}
use Rattle.rel_files.proofs.FileCalls.{step_held}
use Rattle.rel_files.proofs.ForkFiles.{fork_is_made}
use Rattle.rel_files.proofs.WholePages.{made_whole}
use Rattle.backup_restore.specs.Inside.{IsShownIn}

missing : (o : Option ForkPages) → is_some o ≡ false → o ≡ None
missing None none = refl
missing (Some pages) none = absurd cc

pub fork_shown : {T E : Type 0} (result : Result T E) (x y : Option Files) (fork : ForkId) (name : List ℕ) → IsNamed fork 0 → name ≡ fork_path_bytes fork 0 false → OnOk result (y ≡ option_map (after_write name 0 []) x)
    → OnOk result ((relseg : ℕ) → 0 < relseg → (s : Store) → contains_key s fork ≡ false → IsShownIn relseg x s → IsShownIn relseg y (with_fork s fork))
fork_shown (Err why) x y fork name named is written = tt
fork_shown (Ok done) x y fork name named is written = λ relseg some s none shown. record {
  files = step_held relseg x y (after_write name 0 []) s (with_fork s fork) written shown.files (λ m holds.
      subst (λ (q : List ℕ). Holds relseg (after_write q 0 [] m) (with_fork s fork)) (sym is) (fork_is_made relseg m s fork some holds named (missing (get s fork) none)));
  whole = made_whole s fork shown.whole;
}
