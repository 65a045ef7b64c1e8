-- What holds of files that hold a store.
use Rattle.std.specs.Prelude.{◌≡◌, ℕ, ◌<◌, List, None}
use Rattle.std.specs.FinMap.{get, empty}
use Rattle.lsn_core.specs.Files.{Files}
use Rattle.lsn_core.specs.Store.{Store, files_of}
use Rattle.rel_files.specs.Forks.{Holds, IsForkPath}

-- there are no files but segment files of forks
abbrev pub HasOnlyForks : Files → Type 0
HasOnlyForks files = (path : List ℕ) → (IsForkPath path → ⊥) → get files path ≡ None

-- there is no segment file of a fork
abbrev pub HasNoForks : Files → Type 0
HasNoForks files = (path : List ℕ) → IsForkPath path → get files path ≡ None

-- files that hold a store, where there are no others, are just those that the store has
abbrev pub FilesAreExact : Type 0
FilesAreExact = (relseg : ℕ) (files : Files) (store : Store) → 0 < relseg
    → Holds relseg files store → HasOnlyForks files → files ≡ files_of relseg store

-- and files of other names hold a store without forks
abbrev pub EmptyAreasHoldNothing : Type 0
EmptyAreasHoldNothing = (relseg : ℕ) (files : Files) → HasNoForks files → Holds relseg files empty
