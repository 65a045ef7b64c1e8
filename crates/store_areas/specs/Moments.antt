-- What a stop leaves of a store's areas while it is begun: of its data areas what one at the start
-- may leave, or the mark of areas that are rebuilt, or the whole replay. Its WAL stays as it is.
use Rattle.std.specs.Prelude.{◌≡◌, ◌⊎◌, ℕ, ◌<◌, List, map, Option, Some, None}
use Rattle.std.specs.FinMap.{empty}
use Rattle.lsn_core.specs.Files.{Files}
use Rattle.lsn_core.specs.Segment.{StoreSettings}
use Rattle.lsn_core.specs.Store.{Store, files_of}
use Rattle.lsn_core.specs.Tip.{Tip}
use Rattle.vault.specs.Stops.{Event}
use Rattle.vault.specs.Frame.{Adds, IsAmong, IsDurable, Has}
use Rattle.vault.specs.declared.area.Vault.{Ghosts}
use Rattle.wal_record.specs.declared.record.Record.{Record}
use Rattle.history.specs.Apply.{apply_all}
use Rattle.history.specs.Whole.{entry_of}
use Rattle.recovery.specs.Causes.{HasSettings}
use Rattle.recovery.specs.Reading.{IsReadTo}
use Rattle.history.specs.partitions.Parts.{IsPart}
use Rattle.data_areas.specs.declared.areas.DataAreas.{DataAreas}
use Rattle.data_areas.specs.Areas.{area_of}
use Rattle.data_areas.specs.Marking.{rebuilding_name}
use Rattle.data_areas.specs.Moments.{Past, AreLeftNow, StopsLeave}
use Rattle.store_areas.specs.declared.areas.StoreAreas.{StoreAreas}
use Rattle.store_areas.specs.Opened.{past_of}
use Rattle.store_areas.specs.Begin.{data_of}

-- an event is a sync
abbrev pub IsSync : Event → Type 0
IsSync event = IsAmong (λ name. ⊥) event

-- the data areas have just the fork files of the pages that a WAL's entries make, replayed whole
pub record IsReplayed (wal : Option Files) (left : DataAreas Files) : Type 0 where
  pub settings : StoreSettings
  pub given : HasSettings wal settings
  pub entries : List Record
  pub tip : Tip
  pub read : IsReadTo settings wal None entries tip
  pub store : Store
  pub made : apply_all empty (map entry_of entries) ≡ Some store
  pub files : (q : ℕ) → q < 4
      → (part : Store) × (IsPart q store part × (area_of left q ≡ files_of settings.relseg part))

-- the first one has the file `rebuilding`, or they have the whole replay
abbrev pub IsMarkedOrReplayed : Option Files → DataAreas Files → Type 0
IsMarkedOrReplayed wal left = Has rebuilding_name left.data0 ⊎ IsReplayed wal left

-- a stop now leaves the whole replay
abbrev pub LeavesReplay : Option Files → DataAreas Past → Type 0
LeavesReplay wal now = (left : DataAreas Files) → AreLeftNow now left → IsReplayed wal left

-- or they are what a stop at this moment may leave
abbrev pub IsSafelyLeft : Option Files → DataAreas Past → DataAreas Files → Type 0
IsSafelyLeft wal now left = AreLeftNow now left ⊎ IsMarkedOrReplayed wal left

-- a call rebuilds a store's data areas so that a stop at any moment leaves what one at the start
-- may leave, or the mark, or the whole replay; and of the WAL's area nothing changes, which is
-- synced alone, and is durable before anything happens to a data area
pub record RebuildsSafely {V : Type 0} (g : Ghosts V) (old : StoreAreas V) (new : StoreAreas Past)
    : Type 0 where
  pub wal : Adds IsSync (g.past old.wal) new.wal
  pub durable : (data_of new ≡ data_of (past_of g old)) ⊎ IsDurable (g.files old.wal) new.wal
  pub stops : StopsLeave (IsSafelyLeft (g.files old.wal) (data_of (past_of g old)))
      (data_of (past_of g old)) (data_of new)
