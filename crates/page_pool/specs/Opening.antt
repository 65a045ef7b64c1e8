-- A partition that is opened over its area.
use Rattle.std.specs.Prelude.{◌≡◌, ℕ, List, Option, Some, None, IsSome, if◌then◌else◌}
use Rattle.std.specs.List.{fold}
use Rattle.std.specs.FinMap.{get}
use Rattle.lsn_core.specs.declared.ids.ForkId.{ForkId}
use Rattle.lsn_core.specs.declared.ids.ForkLen.{ForkLen}
use Rattle.lsn_core.specs.Store.{Store}
use Rattle.vault.specs.declared.area.Vault.{Ghosts}
use Rattle.rel_files.specs.Shown.{HoldsStore}
use Rattle.rel_files.specs.declared.forks.Forks.{Forks}
use Rattle.history.specs.Apply.{is_same_fork}
use Rattle.page_frames.specs.Framed.{ForkLengths}
use Rattle.page_pool.specs.Calls.{AreWholePages}

-- an area's files hold a store of whole pages
pub record HoldsWhole {V : Type 0} (g : Ghosts V) (disk : Forks V) : Type 0 where
  pub pages : Store
  pub held : HoldsStore g disk pages
  pub whole : AreWholePages pages

-- these are the pages that they hold, where they hold whole ones
abbrev pub ShowsPages : {V : Type 0} → Ghosts V → Forks V → Store → Type 0
ShowsPages g disk shown =
    IsSome (g.files disk.area) → (pages : Store) → HoldsStore g disk pages → AreWholePages pages
    → shown ≡ pages

-- how long a fork is by the last one of a list that names it
abbrev pub listed_length : ForkId → Option ℕ → ForkLen → Option ℕ
listed_length fork before one = if is_same_fork fork one.fork then Some one.blocks else before

abbrev pub AreLengths : List ForkLen → ForkLengths → Type 0
AreLengths list lengths = (fork : ForkId) → get lengths fork ≡ fold (listed_length fork) None list
