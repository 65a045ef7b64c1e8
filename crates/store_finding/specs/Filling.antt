-- What is found of a store before it is begun: no public contract cites these.
use Rattle.std.specs.Prelude.{◌≡◌, ℕ, ◌<◌, ◌≤◌, List, Option, Some, None, IfSome, IsSome, box_value}
use Rattle.std.specs.FinMap.{empty}
use Rattle.lsn_core.specs.Causes.{Rose}
use Rattle.lsn_core.specs.Files.{Files}
use Rattle.lsn_core.specs.Segment.{StoreSettings}
use Rattle.lsn_core.specs.Store.{Store}
use Rattle.lsn_core.specs.Tip.{Tip}
use Rattle.lsn_core.specs.declared.fault.AreaFault.TheVariants.{Failed}
use Rattle.lsn_core.specs.declared.fault.StoreFault.{StoreFault}
use Rattle.vault.specs.declared.area.Vault.{Ghosts}
use Rattle.vault.specs.Frame.{Adds, IsAmong, Has, LeavesNow}
use Rattle.wal_record.specs.declared.record.Record.{Record}
use Rattle.history.specs.Entry.{Entry}
use Rattle.history.specs.Apply.{apply_all}
use Rattle.history.specs.partitions.Parts.{IsPart}
use Rattle.recovery.specs.Reading.{IsReadTo}
use Rattle.recovery.specs.Causes.{HasSettings}
use Rattle.recovery.specs.declared.fault.ReplayFault.{ReplayFault}
use Rattle.recovery.specs.declared.fault.ReplayFault.TheVariants.{Wal, Out}
use Rattle.data_areas.specs.declared.areas.DataAreas.{DataAreas}
use Rattle.vault.specs.declared.boxed.BoxedArea.{BoxedArea}
use Rattle.data_areas.specs.declared.store_forks.StoreForks.{StoreForks}
use Rattle.data_areas.specs.Areas.{FaultsGrow, DataCause}
use Rattle.data_areas.specs.Marking.{rebuilding_name, IsOther}
use Rattle.data_areas.specs.Moments.{Past, StopsLeave, pasts_of}
use Rattle.data_areas.specs.Phases.{first_past}
use Rattle.vault.specs.Boxed.{on_heap}
use Rattle.data_areas.specs.Rebuilt.{held_by}
use Rattle.data_areas.specs.Settling.{AreFilled, SettledSoFar}
use Rattle.data_areas.specs.Stored.{ShowsParts}
use Rattle.store_areas.specs.declared.areas.StoreAreas.{StoreAreas}
use Rattle.store_finding.specs.declared.boxing.BoxedAreas.{BoxedAreas}
use Rattle.store_areas.specs.declared.found.BeginFault.{BeginFault}
use Rattle.store_faults.specs.declared.begin_why.BeginWhy.{BeginWhy}
use Rattle.store_faults.specs.declared.begin_why.BeginWhy.TheVariants as why
use Rattle.store_areas.specs.Begin.{BeginCause, MayComeLate, IsWalPart, data_of}
use Rattle.store_areas.specs.Moments.{IsMarkedOrReplayed}

-- the areas of a store, of which the data areas are on the heap
abbrev pub areas_with : {V : Type 0} → V → DataAreas (BoxedArea V) → StoreAreas V
areas_with wal pages = record {
  wal = wal;
  data0 = box_value pages.data0.area;
  data1 = box_value pages.data1.area;
  data2 = box_value pages.data2.area;
  data3 = box_value pages.data3.area;
}

-- the WAL of these settings was read whole, an entry at least
pub record IsChecked (files : Option Files) (s : StoreSettings) : Type 0 where
  pub given : HasSettings files s
  pub entries : List Record
  pub tip : Tip
  pub read : IsReadTo s files None entries tip
  pub some : 0 < tip.count

-- data areas show the parts of what a history makes, where the WAL's area tells its files
abbrev pub ShowsHistory :
    {V : Type 0} → Ghosts V → Option Files → StoreForks V → List Entry → Type 0
ShowsHistory g files forks history =
    IsSome files → (store : Store) → apply_all empty history ≡ Some store
    → ShowsParts g forks store

-- and so they hold them
abbrev pub HoldHistory :
    {V : Type 0} → Ghosts V → ℕ → Option Files → DataAreas V → List Entry → Type 0
HoldHistory g relseg files areas history =
    IsSome files → (store : Store) → apply_all empty history ≡ Some store → (q : ℕ) → q < 4
    → (part : Store) × (IsPart q store part × held_by g relseg areas q part)

-- data areas were filled by a replay, and nothing else is in them
pub record AreFilledBy {V : Type 0} (g : Ghosts V) (relseg : ℕ) (files : Option Files)
    (history : List Entry) (areas : DataAreas (BoxedArea V)) : Type 0 where
  pub filled : AreFilled (on_heap g) relseg areas
  pub held : HoldHistory (on_heap g) relseg files areas history

-- why a WAL that was read isn't replayed into pages: it is refused, or its area failed, or memory
-- ran out; or a call on the pages failed
abbrev pub IsUnreplayed : Option Files → ℕ → ℕ → ℕ → ℕ → ReplayFault → Type 0
IsUnreplayed files wal_before wal_now before now (Wal fault) =
    BeginCause files wal_before wal_now fault × IfSome files (λ m. MayComeLate fault)
IsUnreplayed files wal_before wal_now before now (Out fault) = fault ≡ Failed → Rose before now

-- cleared data areas, of which the first has the mark, durably, are filled so that a stop at any
-- moment leaves it, or the whole replay, where the WAL's area tells its files; nothing happens to
-- that area
pub record FillsSafely {V : Type 0} (g : Ghosts V) (old : BoxedAreas V) (new : StoreAreas Past)
    : Type 0 where
  pub wal : new.wal ≡ g.past old.wal
  pub stops : IsSome (g.files old.wal)
      → LeavesNow (Has rebuilding_name) (first_past (on_heap g) old.pages)
      → StopsLeave (IsMarkedOrReplayed (g.files old.wal)) (pasts_of (on_heap g) old.pages)
      (data_of new)

-- data areas that a replay filled weren't opened, since one failed or memory ran out
pub record IsUnsettled {V : Type 0} (g : Ghosts V) (relseg : ℕ) (old : BoxedAreas V)
    (fault : BeginFault V) : Type 0 where
  pub pages : DataAreas (BoxedArea V)
  pub areas : fault.areas ≡ areas_with old.wal pages
  pub later : FaultsGrow (on_heap g) old.pages pages
  pub came :
      SettledSoFar (on_heap g) relseg (held_by (on_heap g) relseg old.pages) old.pages pages
  pub why_is : StoreFault
  pub why : fault.why ≡ why.Data why_is
  pub cause : DataCause (on_heap g) old.pages pages why_is

-- why cleared areas weren't filled, and how far that came
abbrev pub FillsNot : {V : Type 0} → Ghosts V → StoreSettings → BoxedAreas V → V
    → DataAreas (BoxedArea V) → BeginWhy → Type 0
FillsNot g s old wal pages (why.Wal fault) = ⊥
FillsNot g s old wal pages (why.Replay fault) =
    BeginCause (g.files old.wal) (g.faults old.wal) (g.faults wal) fault
    × (IfSome (g.files old.wal) (λ m. MayComeLate fault)
    × Adds (IsAmong IsOther) (first_past (on_heap g) old.pages) (first_past (on_heap g) pages))
FillsNot g s old wal pages (why.Data fault) =
    DataCause (on_heap g) old.pages pages fault
    × SettledSoFar (on_heap g) s.relseg (IsWalPart (g.files old.wal) s) old.pages pages

-- cleared data areas weren't filled by a replay and opened
pub record IsUnfilled {V : Type 0} (g : Ghosts V) (s : StoreSettings) (old : BoxedAreas V)
    (fault : BeginFault V) : Type 0 where
  pub wal : V
  pub pages : DataAreas (BoxedArea V)
  pub areas : fault.areas ≡ areas_with wal pages
  pub same : g.files wal ≡ g.files old.wal
  pub counted : g.faults old.wal ≤ g.faults wal
  pub later : FaultsGrow (on_heap g) old.pages pages
  pub cause : FillsNot g s old wal pages fault.why
