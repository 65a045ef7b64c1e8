-- Which store segment files hold: one at most, for a store's own files that store, and for a
-- directory on its own what it is combined to.
use Rattle.std.specs.Prelude.{◌≡◌, ◌<◌, ℕ, true, false, [], ◌∷◌, None}
use Rattle.std.specs.FinMap.{get}
use Rattle.lsn_core.specs.Files.{Files}
use Rattle.lsn_core.specs.Laws.{HasNamedForks}
use Rattle.lsn_core.specs.Names.{fork_path_bytes, IsNamed}
use Rattle.lsn_core.specs.Store.{Store, files_of}
use Rattle.lsn_core.specs.declared.ids.ForkId.{ForkId}
use Rattle.rel_files.specs.Forks.{HasWholePages}
use Rattle.chain_files.specs.Segments.{Segments, plain_segments, chain_segments}
use Rattle.chain_files.specs.Held.{IsStoreOf, IsStoreIn, IsStoreOfChain}

-- segment files hold one store at most
abbrev pub FilesHoldOneStore : Type 0
FilesHoldOneStore = (relseg : ℕ) (segments : Segments) (one other : Store)
    → IsStoreOf relseg segments one → IsStoreOf relseg segments other → one ≡ other

-- two that are alike, as far as forks and segments have a path
abbrev pub AreAlike : Segments → Segments → Type 0
AreAlike one other =
    (fork : ForkId) (seg : ℕ) → IsNamed fork seg → one fork seg ≡ other fork seg

-- hold the same
abbrev pub AlikeFilesHoldOneStore : Type 0
AlikeFilesHoldOneStore = (relseg : ℕ) (one other : Segments) (store : Store)
    → 0 < relseg → AreAlike one other → IsStoreOf relseg one store → IsStoreOf relseg other store

-- a store whose numbers and lengths fit, and whose pages are whole
pub record IsWritable (store : Store) : Type 0 where
  pub named : HasNamedForks store
  pub pages : HasWholePages store

-- files that have a store's segment files and no other plain ones hold that store
abbrev pub StoresAreHeld : Type 0
StoresAreHeld = (relseg : ℕ) (files : Files) (store : Store)
    → 0 < relseg → IsWritable store
    → ((fork : ForkId) (seg : ℕ) → IsNamed fork seg
    → get files (fork_path_bytes fork seg false)
    ≡ get (files_of relseg store) (fork_path_bytes fork seg false))
    → IsStoreIn relseg files store

-- a directory has no incremental file of a fork
abbrev pub HasNoIncrements : Files → Type 0
HasNoIncrements files = (fork : ForkId) (seg : ℕ) → IsNamed fork seg
    → get files (fork_path_bytes fork seg true) ≡ None

-- as a chain of one it has the segment files that it has
abbrev pub DirectoriesAreCombinedToThemselves : Type 0
DirectoriesAreCombinedToThemselves = (files : Files) → HasNoIncrements files
    → AreAlike (plain_segments files) (chain_segments (files ∷ []))

-- so as a chain of one it holds what it holds by its plain files
abbrev pub PlainDirectoriesAreChains : Type 0
PlainDirectoriesAreChains = (relseg : ℕ) (files : Files) (store : Store)
    → 0 < relseg → HasNoIncrements files → IsStoreIn relseg files store
    → IsStoreOfChain relseg (files ∷ []) store
