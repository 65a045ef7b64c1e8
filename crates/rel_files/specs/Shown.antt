-- What a store in segment files holds and shows, and what calls on it keep and leave.
use Rattle.std.specs.Prelude.{◌≡◌, ℕ, ◌⊎◌, min, Bool, List, length, Option, Some}
use Rattle.std.specs.Option.{option_map}
use Rattle.std.specs.FinMap.{get}
use Rattle.std.specs.BTreeMap.{BTreeMap}
use Rattle.std.specs.BTreeMap as tree
use Rattle.lsn_core.specs.declared.ids.ForkId.{ForkId}
use Rattle.lsn_core.specs.declared.ids.BlockId.{BlockId}
use Rattle.lsn_core.specs.declared.ids.ForkLen.{ForkLen}
use Rattle.lsn_core.specs.Files.{Files}
use Rattle.lsn_core.specs.Store.{Store, fork_cmp}
use Rattle.lsn_core.specs.Blocks.{block_count, pages_of, with_fork}
use Rattle.lsn_core.specs.Shown.{BlockAnswer}
use Rattle.vault.specs.Frame.{Adds, ChangesOnly}
use Rattle.rel_files.specs.Events.{IsPut, IsMake, IsFileRemoval, IsForkCut}
use Rattle.vault.specs.declared.area.Vault.{Ghosts}
use Rattle.rel_files.specs.Forks.{Holds, HasWholePages, whole_pages, mended, IsForkPath}
use Rattle.rel_files.specs.Forks.{fork_lengths}
use Rattle.rel_files.specs.declared.forks.Forks.{Forks}

-- ---- what a store in segment files holds

-- the files that an area tells hold a store, at so many blocks a file
pub record AreFilesOf (relseg : ℕ) (told : Option Files) (store : Store) : Type 0 where
  pub files : Files
  pub are_told : told ≡ Some files
  pub hold : Holds relseg files store

-- how many whole pages a fork has, where it is there
abbrev pub whole_count : Store → ForkId → Option ℕ
whole_count store fork = option_map (λ pages. length (whole_pages pages)) (get store fork)

-- the lengths that are known are right
abbrev pub AreKnown : BTreeMap ForkId ℕ → Store → Type 0
AreKnown known store = (fork : ForkId) (blocks : ℕ)
    → tree.get fork_cmp known fork ≡ Some blocks → whole_count store fork ≡ Some blocks

-- the area's files hold a store, and the lengths that are known are right
pub record HoldsStore {V : Type 0} (g : Ghosts V) (forks : Forks V) (store : Store) : Type 0 where
  pub files : AreFilesOf forks.relseg (g.files forks.area) store
  pub known : AreKnown forks.known store

-- each store that the files hold is held, where one is: all have the same numbers of whole pages
abbrev pub HoldAlike : {V : Type 0} → Ghosts V → Forks V → Type 0
HoldAlike g forks = (s t : Store) → HoldsStore g forks s
    → AreFilesOf forks.relseg (g.files forks.area) t → HoldsStore g forks t

-- a store that is held is shown where all its pages are whole
pub record ShowsStore {V : Type 0} (g : Ghosts V) (forks : Forks V) (store : Store) : Type 0 where
  pub holds : HoldsStore g forks store
  pub whole : HasWholePages store

-- ---- what calls answer, keep and leave

-- how many whole pages a fork of a held store has, where it is there
abbrev pub CountsWhole : (Store → Type 0) → ForkId → Option ℕ → Type 0
CountsWhole held fork count = (s : Store) → held s → count ≡ block_count (mended s fork) fork

-- a whole page of a held store that was read, or that isn't there
abbrev pub ReadsWhole : (Store → Type 0) → BlockId → List ℕ → List ℕ → Bool → Type 0
ReadsWhole held at old new there =
    (s : Store) → held s → BlockAnswer (mended s at.fork) at old new there

-- the forks of a held store, in order, with the numbers of their whole pages
abbrev pub ListsForks : (Store → Type 0) → List ForkLen → Type 0
ListsForks held list = (s : Store) → held s → list ≡ fork_lengths s

-- every call keeps the number of blocks in a file, and all files that aren't a fork's
pub record KeepsOthers {V : Type 0} (g : Ghosts V) (old new : Forks V) : Type 0 where
  pub relseg : new.relseg ≡ old.relseg
  pub area : ChangesOnly g IsForkPath old.area new.area

-- of each store that was held before, a call leaves another one that is so related to it
abbrev pub Leaves : {P : Type 0} → (P → Store → Type 0) → P → P → (Store → Store → Type 0) → Type 0
Leaves holds before behind left =
    (s : Store) → holds before s → (t : Store) × (holds behind t × left s t)

-- a fork whose making failed is there, or isn't
abbrev pub IsTornMake : ForkId → Store → Store → Type 0
IsTornMake fork old new = (new ≡ old) ⊎ (new ≡ with_fork old fork)

-- ---- what calls add to what happened to the area

-- a put of a page: pages at the block, and before it behind the whole ones of each held store
abbrev pub AddsPut : {V : Type 0} → Ghosts V → BlockId → Forks V → Forks V → Type 0
AddsPut g at old new =
    (s : Store) → HoldsStore g old s
    → Adds (IsPut old.relseg (length (whole_pages (pages_of s at.fork))) at)
    (g.past old.area) (g.past new.area)

-- the making of a fork
abbrev pub AddsMake : {V : Type 0} → Ghosts V → ForkId → Forks V → Forks V → Type 0
AddsMake g fork old new = Adds (IsMake fork) (g.past old.area) (g.past new.area)

-- the removal of a fork: of its files
abbrev pub AddsRemoval : {V : Type 0} → Ghosts V → ForkId → Forks V → Forks V → Type 0
AddsRemoval g fork old new = Adds (IsFileRemoval fork 0) (g.past old.area) (g.past new.area)

-- a cut of a fork: behind its whole pages, or behind as many as are to stay
abbrev pub AddsCut : {V : Type 0} → Ghosts V → ForkId → ℕ → Forks V → Forks V → Type 0
AddsCut g fork to old new =
    (s : Store) → HoldsStore g old s
    → Adds (IsForkCut old.relseg fork (min (length (whole_pages (pages_of s fork))) to))
    (g.past old.area) (g.past new.area)
