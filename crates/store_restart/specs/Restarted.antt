-- A store that was brought back after a stop, or why it isn't.
use Rattle.std.specs.Prelude.{◌≡◌, ◌⊎◌, List, IfSome, IsSome, Result, Ok, Err, box_value}
use Rattle.lsn_core.specs.Causes.{Rose}
use Rattle.lsn_core.specs.Files.{Files}
use Rattle.lsn_core.specs.Segment.{StoreSettings}
use Rattle.lsn_core.specs.Tip.{Tip}
use Rattle.lsn_core.specs.declared.fault.StoreArea.TheVariants.{Wal, Data, Sums}
use Rattle.vault.specs.declared.area.Vault.{Ghosts}
use Rattle.vault.specs.Boxed.{on_heap}
use Rattle.vault.specs.declared.boxed.BoxedArea.{BoxedArea}
use Rattle.vault.specs.Area.{Related}
use Rattle.vault.specs.Frame.{ChangesOnly, IsDurable}
use Rattle.wal_record.specs.declared.record.Record.{Record}
use Rattle.wal_archive.specs.declared.fault.Damage.{Damage}
use Rattle.wal_reader.specs.Wal.{IsWal}
use Rattle.data_areas.specs.declared.areas.DataAreas.{DataAreas}
use Rattle.store_areas.specs.declared.areas.StoreAreas.{StoreAreas}
use Rattle.store_areas.specs.Begin.{data_of}
use Rattle.store_restart.specs.declared.fault.RestartFault.{RestartFault}
use Rattle.store_restart.specs.declared.fault.RestartWhy.{RestartWhy}
use Rattle.store_restart.specs.declared.fault.RestartWhy.TheVariants.{Damaged, BadDelta, Failed, NoMemory}
use Rattle.store_restart.specs.declared.restarting.Restarted.{Restarted}
use Rattle.store_restart.specs.Causes.{RestartCause}
use Rattle.store_restart.specs.Restart.{OthersStay, AreDurable, EndWith, BringsBack, IsBadSurvivor}
use Rattle.store_restart.specs.Survivors.{IsCutOff, IsSpoilt}
use Rattle.store_restart.specs.Trimmed.{IsArchiveFile}

-- the areas of a store, of its WAL's and its data areas
abbrev pub areas_of : {V : Type 0} → V → DataAreas V → StoreAreas V
areas_of wal pages = record {
  wal = wal;
  data0 = pages.data0;
  data1 = pages.data1;
  data2 = pages.data2;
  data3 = pages.data3;
}

-- the areas behind a restart, whatever it answers
abbrev pub areas_in : {V : Type 0} → Result (Restarted V) (RestartFault V) → StoreAreas V
areas_in (Ok back) = back.areas
areas_in (Err fault) = fault.areas

-- why the survivors of a WAL aren't read
abbrev pub IsUnread : {V : Type 0} → Ghosts V → StoreSettings → V → V → RestartWhy → Type 0
IsUnread g s old new (Damaged damage) = IfSome (g.files old) (IsSpoilt s damage)
IsUnread g s old new (BadDelta place) = ⊥
IsUnread g s old new (Failed Wal) = Rose (g.faults old) (g.faults new)
IsUnread g s old new (Failed (Data q)) = ⊥
IsUnread g s old new (Failed Sums) = ⊥
IsUnread g s old new NoMemory = Unit {0}

-- of files of a WAL, which had its survivors and what stood behind them, these are left
pub record IsCutBack (s : StoreSettings) (tip : Tip) (old new : Files) : Type 0 where
  pub records : List Record
  pub off : IsCutOff s old records tip
  pub wal : IsWal s new records tip

-- a store was brought back: its WAL is just the survivors, durably, and its data areas have the
-- segment files of what these make, durably
pub record IsBack {V : Type 0} (g : Ghosts V) (s : StoreSettings) (old : StoreAreas V)
    (back : Restarted V) : Type 0 where
  pub wal : Related (IsCutBack s back.tip) (g.files old.wal) (g.files back.areas.wal)
  pub wal_durable : IsDurable (g.files back.areas.wal) (g.past back.areas.wal)
  pub wal_others : ChangesOnly g (IsArchiveFile s.segment) old.wal back.areas.wal
  pub brings : IfSome (g.files old.wal) (BringsBack g s back.tip (data_of old) (data_of back.areas)
      (record { forks = back.forks; pages = back.pages }))
  pub data_durable : AreDurable g (data_of back.areas)
  pub data_others : OthersStay g (data_of old) (data_of back.areas)

-- it wasn't, for this reason; damage of the WAL, where its area tells its files, comes before
-- anything was written
pub record IsRefused {V : Type 0} (g : Ghosts V) (s : StoreSettings) (old : StoreAreas V)
    (fault : RestartFault V) : Type 0 where
  pub cause : RestartCause g (λ damage. IfSome (g.files old.wal) (IsSpoilt s damage))
      (λ place. IfSome (g.files old.wal)
      (λ m. (tip : Tip) × (EndWith s tip m × IsBadSurvivor g s tip (data_of old) place m)))
      old.wal fault.areas.wal (data_of old) (data_of fault.areas) fault.why
  pub untouched : (damage : Damage) → fault.why ≡ Damaged damage → IsSome (g.files old.wal)
      → ChangesOnly g (λ name. ⊥) old.wal fault.areas.wal
      × (data_of fault.areas ≡ data_of old)
  pub wal_others : ChangesOnly g (IsArchiveFile s.segment) old.wal fault.areas.wal
  pub data_others : OthersStay g (data_of old) (data_of fault.areas)

-- ---- by areas that were moved to the heap

-- the areas of a store, moved back from the heap; and with them what a restart answers
abbrev pub plain : {V : Type 0} → StoreAreas (BoxedArea V) → StoreAreas V
plain areas = record {
  wal = box_value areas.wal.area;
  data0 = box_value areas.data0.area;
  data1 = box_value areas.data1.area;
  data2 = box_value areas.data2.area;
  data3 = box_value areas.data3.area;
}

abbrev pub plain_back : {V : Type 0} → Restarted (BoxedArea V) → Restarted V
plain_back back = record {
  areas = plain back.areas;
  tip = back.tip;
  forks = back.forks;
  pages = back.pages;
}

abbrev pub plain_fault : {V : Type 0} → RestartFault (BoxedArea V) → RestartFault V
plain_fault fault = record { areas = plain fault.areas; why = fault.why }

-- a store was brought back, with its areas on the heap
pub record IsBackFrom {V : Type 0} (g : Ghosts V) (s : StoreSettings) (old : StoreAreas V)
    (back : Restarted V) : Type 0 where
  pub before : StoreAreas (BoxedArea V)
  pub before_is : plain before ≡ old
  pub behind : Restarted (BoxedArea V)
  pub behind_is : back ≡ plain_back behind
  pub is : IsBack (on_heap g) s before behind

-- it wasn't: memory ran out before anything was done, or it was refused with its areas on the heap
pub record IsRefusedThere {V : Type 0} (g : Ghosts V) (s : StoreSettings) (old : StoreAreas V)
    (fault : RestartFault V) : Type 0 where
  pub before : StoreAreas (BoxedArea V)
  pub before_is : plain before ≡ old
  pub behind : RestartFault (BoxedArea V)
  pub behind_is : fault ≡ plain_fault behind
  pub is : IsRefused (on_heap g) s before behind

abbrev pub IsRefusedFrom : {V : Type 0} → Ghosts V → StoreSettings → StoreAreas V
    → RestartFault V → Type 0
IsRefusedFrom g s old fault =
    ((fault.areas ≡ old) × (fault.why ≡ NoMemory)) ⊎ IsRefusedThere g s old fault
