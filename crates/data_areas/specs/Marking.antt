-- The mark of data areas that are rebuilt.
use Rattle.std.specs.Prelude.{◌≡◌, ◌≢◌, ℕ, List, Option, None, codes}
use Rattle.std.specs.FinMap.{get}
use Rattle.vault.specs.Stops.{Event}
use Rattle.vault.specs.Frame.{IsAmong, IsBehind, Adds, LeavesNow, LeavesOnly, Has}
use Rattle.lsn_core.specs.Files.{Files}

-- the file that the first data area has while the four are rebuilt (profile)
abbrev pub rebuilding_name : List ℕ
rebuilding_name = codes "rebuilding"

-- a name is that of the mark, or another one
abbrev pub IsMark : List ℕ → Type 0
IsMark name = name ≡ rebuilding_name

abbrev pub IsOther : List ℕ → Type 0
IsOther name = name ≢ rebuilding_name

-- a write of the mark, or a sync
abbrev pub IsMarking : Event → Type 0
IsMarking event = IsBehind rebuilding_name 0 event

-- the files have no other name than this one
abbrev pub HasOnly : List ℕ → Files → Type 0
HasOnly name files = (other : List ℕ) → other ≢ name → get files other ≡ None

-- while only other files change, a stop at any moment leaves the mark
abbrev pub MarksStay : Type 0
MarksStay =
    (old new : Option (List Event)) → Adds (IsAmong IsOther) old new
    → LeavesNow (Has rebuilding_name) old → LeavesOnly (Has rebuilding_name) old new
