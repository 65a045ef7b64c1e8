-- The areas of a store, a store that was found on them, and why none was begun.
use Rattle.std.specs.Prelude.{◌≡◌, ℕ, ◌<◌, ◌⊎◌, ◌==◌, if◌then◌else◌, List, [], map, length, Option, None, IsSome, IfSome, Some}
use Rattle.lsn_core.specs.Causes.{Rose}
use Rattle.std.specs.FinMap.{empty}
use Rattle.lsn_core.specs.Files.{Files}
use Rattle.lsn_core.specs.Segment.{StoreSettings}
use Rattle.lsn_core.specs.Store.{Store}
use Rattle.lsn_core.specs.Tip.{Tip}
use Rattle.lsn_core.specs.declared.fault.StoreArea.TheVariants.{Data}
use Rattle.lsn_core.specs.declared.fault.StoreFault.{StoreFault}
use Rattle.lsn_core.specs.declared.fault.StoreFault.TheVariants as store
use Rattle.vault.specs.declared.area.Vault.{Ghosts}
use Rattle.wal_record.specs.declared.record.Record.{Record}
use Rattle.wal_record.specs.Tips.{first_tip, tip_behind}
use Rattle.wal_reader.specs.Wal.{IsWal}
use Rattle.history.specs.Apply.{apply_all}
use Rattle.history.specs.Whole.{entry_of}
use Rattle.recovery.specs.Causes.{RecoveryCauses, CauseOf, HasSettings, wal_causes}
use Rattle.recovery.specs.Reading.{IsReadTo}
use Rattle.recovery.specs.declared.fault.RecoveryFault.{RecoveryFault}
use Rattle.recovery.specs.declared.fault.RecoveryFault.TheVariants as recovery
use Rattle.history.specs.partitions.Parts.{IsPart}
use Rattle.data_areas.specs.declared.areas.DataAreas.{DataAreas}
use Rattle.data_areas.specs.Phases.{HaveMarkSince, CameSoFar}
use Rattle.store_areas.specs.declared.areas.StoreAreas.{StoreAreas}
use Rattle.store_faults.specs.declared.begin_why.BeginWhy.{BeginWhy}
use Rattle.store_faults.specs.declared.begin_why.BeginWhy.TheVariants as why
use Rattle.store_areas.specs.declared.found.BeginFault.{BeginFault}
use Rattle.store_areas.specs.declared.found.Found.{Found}
use Rattle.vault.specs.Frame.{IsDurable}
use Rattle.page_pool.specs.Facts.{IsPartOf}
use Rattle.store_areas.specs.Opened.{Faults, Opened, NoneFell, data_count}
use Rattle.store_areas.specs.Read.{IsFound}

-- ---- areas

-- how often calls of them failed
abbrev pub faults_of : {V : Type 0} → Ghosts V → StoreAreas V → Faults
faults_of g areas = record {
  wal = g.faults areas.wal;
  data0 = g.faults areas.data0;
  data1 = g.faults areas.data1;
  data2 = g.faults areas.data2;
  data3 = g.faults areas.data3;
}

-- what their data areas tell of their files
abbrev pub files_of_data : {V : Type 0} → Ghosts V → StoreAreas V → DataAreas (Option Files)
files_of_data g areas = record {
  data0 = g.files areas.data0;
  data1 = g.files areas.data1;
  data2 = g.files areas.data2;
  data3 = g.files areas.data3;
}

-- the data area of a number
abbrev pub data_area : {V : Type 0} → StoreAreas V → ℕ → V
data_area areas q =
    if q == 0 then areas.data0
    else (if q == 1 then areas.data1 else (if q == 2 then areas.data2 else areas.data3))

-- each of them tells its files
pub record AllTell {V : Type 0} (g : Ghosts V) (areas : StoreAreas V) : Type 0 where
  pub wal : IsSome (g.files areas.wal)
  pub pages : (q : ℕ) → q < 4 → IsSome (g.files (data_area areas q))

-- ---- a store that was found

-- it shows what an open one does
abbrev pub shown_of : {V : Type 0} → Ghosts V → Found V → Opened
shown_of g found = record {
  settings = found.settings;
  history = found.opened.list;
  faults = record {
    wal = g.faults found.wal;
    data0 = found.parts.part0.faults;
    data1 = found.parts.part1.faults;
    data2 = found.parts.part2.faults;
    data3 = found.parts.part3.faults;
  };
  wal = g.files found.wal;
  flushed = found.tip.end;
  past = record {
    wal = g.past found.wal;
    data0 = found.parts.part0.past;
    data1 = found.parts.part1.past;
    data2 = found.parts.part2.past;
    data3 = found.parts.part3.past;
  };
}

-- the store's history is the entries that its WAL was found to have, of which there is one at least
-- and which make a store's pages, where areas tell their files, and all of it is flushed
pub record HasBegun (files : Option Files) (store : Opened) (tip : Tip) : Type 0 where
  pub given : HasSettings files store.settings
  pub found : List Record
  pub some : 0 < length found
  pub tip_is : tip ≡ tip_behind (first_tip store.settings.segment) found
  pub archive : IfSome files (λ m. IsWal store.settings m found tip)
  pub history : store.history ≡ map entry_of found
  pub pages : Store
  pub made : IsSome files → apply_all empty store.history ≡ Some pages
  pub flushed : store.flushed ≡ tip.end
  pub wal : store.wal ≡ files

-- so it was found on these areas, of which none's count of faults fell
pub record IsBegun {V : Type 0} (g : Ghosts V) (areas : StoreAreas V) (store : Opened) (tip : Tip)
    : Type 0 where
  pub has : HasBegun (g.files areas.wal) store tip
  pub later : NoneFell (faults_of g areas) store.faults

-- what is known of it: its WAL was read whole to this history, durably, which each partition
-- follows
pub record IsStanding {V : Type 0} (g : Ghosts V) (found : Found V) : Type 0 where
  pub is : IsFound (g.files found.wal) found.settings found.opened.list found.pages found.tip
  pub durable : IsDurable (g.files found.wal) (g.past found.wal)
  pub part0 : IsPartOf 0 found.settings.relseg (IsSome (g.files found.wal)) found.opened.list
      found.parts.part0
  pub part1 : IsPartOf 1 found.settings.relseg (IsSome (g.files found.wal)) found.opened.list
      found.parts.part1
  pub part2 : IsPartOf 2 found.settings.relseg (IsSome (g.files found.wal)) found.opened.list
      found.parts.part2
  pub part3 : IsPartOf 3 found.settings.relseg (IsSome (g.files found.wal)) found.opened.list
      found.parts.part3

-- ---- why none was

-- the WAL has settings and no entry
pub record HasNoEntry (files : Option Files) : Type 0 where
  pub settings : StoreSettings
  pub given : HasSettings files settings
  pub archive : IfSome files (λ m. IsWal settings m [] (first_tip settings.segment))

-- a WAL can't be begun on where it can't be replayed; one without an entry is missing too
abbrev pub begin_causes : Option Files → RecoveryCauses
begin_causes files = record (wal_causes None files) {
  missing = (wal_causes None files).missing ⊎ HasNoEntry files;
}

abbrev pub BeginCause : Option Files → ℕ → ℕ → RecoveryFault → Type 0
BeginCause files before now fault = CauseOf (begin_causes files) before now fault

-- of what a WAL is refused for this comes before any data area is touched: all but a bad delta
abbrev pub MayComeFirst : RecoveryFault → Type 0
MayComeFirst (recovery.Damaged mib damage) = Unit {0}
MayComeFirst (recovery.Short end target) = Unit {0}
MayComeFirst (recovery.BadDelta place) = ⊥
MayComeFirst recovery.SettingsDamaged = Unit {0}
MayComeFirst (recovery.Timeline name) = Unit {0}
MayComeFirst recovery.NotInit = Unit {0}
MayComeFirst recovery.Failed = Unit {0}
MayComeFirst recovery.NoMemory = Unit {0}

-- only this comes once it was read whole
abbrev pub MayComeLate : RecoveryFault → Type 0
MayComeLate (recovery.Damaged mib damage) = ⊥
MayComeLate (recovery.Short end target) = ⊥
MayComeLate (recovery.BadDelta place) = Unit {0}
MayComeLate recovery.SettingsDamaged = ⊥
MayComeLate (recovery.Timeline name) = ⊥
MayComeLate recovery.NotInit = ⊥
MayComeLate recovery.Failed = Unit {0}
MayComeLate recovery.NoMemory = Unit {0}

-- ---- the data areas

-- the data areas are untouched
pub record SameData {V : Type 0} (old new : StoreAreas V) : Type 0 where
  pub data0 : new.data0 ≡ old.data0
  pub data1 : new.data1 ≡ old.data1
  pub data2 : new.data2 ≡ old.data2
  pub data3 : new.data3 ≡ old.data3

-- a store's data areas
abbrev pub data_of : {V : Type 0} → StoreAreas V → DataAreas V
data_of areas = record {
  data0 = areas.data0;
  data1 = areas.data1;
  data2 = areas.data2;
  data3 = areas.data3;
}

-- the pages of a partition that the entries of a WAL make, where its area tells its files
pub record IsWalPart (files : Option Files) (s : StoreSettings) (q : ℕ) (pages : Store)
    : Type 0 where
  pub told : IsSome files
  pub entries : List Record
  pub tip : Tip
  pub read : IsReadTo s files None entries tip
  pub store : Store
  pub made : apply_all empty (map entry_of entries) ≡ Some store
  pub part_is : IsPart q store pages

-- rebuilding them from the WAL came so far: nothing but the mark of the first one was touched; or
-- it has its mark still; or all four have just their files, and it may be gone
pub record RebuildsSoFar {V : Type 0} (g : Ghosts V) (old new : StoreAreas V) : Type 0 where
  pub settings : StoreSettings
  pub given : HasSettings (g.files old.wal) settings
  pub came : CameSoFar g settings.relseg (IsWalPart (g.files old.wal) settings)
      (data_of old) (data_of new)

-- a data area failed, and only where its count rose, which at its type's end stays; want of memory
-- may come at any time
abbrev pub DataFails : Faults → Faults → StoreFault → Type 0
DataFails old new (store.Failed area) =
    (q : ℕ) × (q < 4) × (area ≡ Data q) × Rose (data_count q old) (data_count q new)
DataFails old new store.NoMemory = Unit {0}

-- the WAL can't be begun on, and the data areas are untouched; or it was read, and can't be
-- replayed, and the first data area has the mark of areas that are rebuilt; or a data area failed,
-- or memory ran out while these were rebuilt
abbrev pub BeginsNot : {V : Type 0} → Ghosts V → StoreAreas V → StoreAreas V → BeginWhy → Type 0
BeginsNot g old new (why.Wal fault) =
    BeginCause (g.files old.wal) (g.faults old.wal) (g.faults new.wal) fault
    × (MayComeFirst fault × SameData old new)
BeginsNot g old new (why.Replay fault) =
    BeginCause (g.files old.wal) (g.faults old.wal) (g.faults new.wal) fault
    × (IfSome (g.files old.wal) (λ m. MayComeLate fault)
    × HaveMarkSince g (data_of old) (data_of new))
BeginsNot g old new (why.Data fault) =
    DataFails (faults_of g old) (faults_of g new) fault × RebuildsSoFar g old new

-- no store was begun on these areas, which are handed back; the WAL has the files that it had
pub record IsUnbegun {V : Type 0} (g : Ghosts V) (areas : StoreAreas V) (fault : BeginFault V)
    : Type 0 where
  pub wal : g.files fault.areas.wal ≡ g.files areas.wal
  pub later : NoneFell (faults_of g areas) (faults_of g fault.areas)
  pub cause : BeginsNot g areas fault.areas fault.why
