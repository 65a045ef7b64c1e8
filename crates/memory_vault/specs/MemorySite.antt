-- What is known of the areas of a site in memory.
use Rattle.std.specs.Prelude.{◌≡◌, ℕ, Bool, true, false, List, []}
use Rattle.std.specs.Prelude.{Option, Some, option_map, Result, Ok, Err}
use Rattle.std.specs.FinMap.{empty}
use Rattle.lsn_core.specs.declared.fault.AreaFault.{AreaFault}
use Rattle.lsn_core.specs.declared.fault.AreaFault.TheVariants.{Failed, NoMemory}
use Rattle.memory_vault.specs.declared.fuse.Fuse.{Fuse}
use Rattle.memory_vault.specs.declared.memory_site.MemSite.{MemSite}
use Rattle.memory_vault.specs.Memory.{MemoryArea, new_area}
use Rattle.vault.specs.Record.{told}
use Rattle.vault.specs.Site.{AreaState, at_home, new_area as new_area_state, one_away, Areas, set_at}
use Rattle.vault.specs.Shelf.{areas_on, HasNoPlace}

-- an area that nobody placed: it is at home and has no files
abbrev pub new_state : AreaState
new_state = new_area_state (Some empty)

-- what is known of an area at home
abbrev pub state_of : MemoryArea → AreaState
state_of area = at_home (Some area.files) (Some (told area.changes)) area.faults

-- where each area is, its files and its count of faults
abbrev pub areas_of : MemSite → Areas
areas_of site = areas_on state_of (Some empty) site.shelf

-- this is the area of a name
abbrev pub IsAreaOf : MemSite → List ℕ → MemoryArea → Type 0
IsAreaOf site name area = state_of area ≡ areas_of site name

-- the area of a name is out now, and the others are as they were
abbrev pub LendsArea : List ℕ → MemSite → MemSite → Type 0
LendsArea name old new = areas_of new ≡ one_away (areas_of old) name

-- this area is at home now under a name, and the others are as they were
abbrev pub KeepsArea : List ℕ → MemoryArea → MemSite → MemSite → Type 0
KeepsArea name area old new = areas_of new ≡ set_at (areas_of old) name (state_of area)

-- a new share of a fuse, where there is one
abbrev pub fresh_share : Option Fuse → Option Bool
fresh_share fuse = option_map (λ _. false) fuse

abbrev pub IsShareOf : Option Fuse → Option Fuse → Type 0
IsShareOf fuse share = option_map (λ f. f.burned) share ≡ fresh_share fuse

-- an area that has no place in its site is new: it has no files, no call of it is to fail, and it
-- shares this fuse
abbrev pub IsMadeUnlessPlaced : MemSite → List ℕ → Option Fuse → MemoryArea → Type 0
IsMadeUnlessPlaced site name fuse area =
    HasNoPlace site.shelf name → area ≡ record (new_area []) { fuse = fresh_share fuse }

-- whether a call failed
abbrev pub is_failed : {T : Type 0} → Result T AreaFault → Bool
is_failed (Ok value) = false
is_failed (Err Failed) = true
is_failed (Err NoMemory) = false
