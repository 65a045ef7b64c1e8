-- An open store, as contracts see it, and what it is known to be.
use Rattle.std.specs.Prelude.{◌≡◌, ℕ, ◌≤◌, ◌==◌, if◌then◌else◌, List, Option}
use Rattle.lsn_core.specs.Causes.{Rose}
use Rattle.lsn_core.specs.Files.{Files}
use Rattle.lsn_core.specs.Segment.{StoreSettings}
use Rattle.lsn_core.specs.declared.fault.StoreArea.{StoreArea}
use Rattle.lsn_core.specs.declared.fault.StoreArea.TheVariants.{Wal, Data, Sums}
use Rattle.lsn_core.specs.declared.fault.StoreFault.{StoreFault}
use Rattle.lsn_core.specs.declared.fault.StoreFault.TheVariants as store
use Rattle.vault.specs.declared.area.Vault.{Ghosts}
use Rattle.history.specs.Entry.{Entry}
use Rattle.history.specs.Written.{tip_of}
use Rattle.data_areas.specs.Moments.{Past}
use Rattle.store_areas.specs.declared.areas.StoreAreas.{StoreAreas}

-- how often calls of the areas failed
pub record Faults : Type 0 where
  pub wal : ℕ
  pub data0 : ℕ
  pub data1 : ℕ
  pub data2 : ℕ
  pub data3 : ℕ

-- what happened so far to each area of a store, where it tells that
abbrev pub past_of : {V : Type 0} → Ghosts V → StoreAreas V → StoreAreas Past
past_of g areas = record {
  wal = g.past areas.wal;
  data0 = g.past areas.data0;
  data1 = g.past areas.data1;
  data2 = g.past areas.data2;
  data3 = g.past areas.data3;
}

-- its settings, its history, how often calls of its areas failed, the files of the WAL's area where
-- that tells them, the place up to which the WAL is flushed, and what happened to its areas so far
pub record Opened : Type 0 where
  pub settings : StoreSettings
  pub history : List Entry
  pub faults : Faults
  pub wal : Option Files
  pub flushed : ℕ
  pub past : StoreAreas Past

-- where its WAL ends, behind the last entry
abbrev pub wal_top : Opened → ℕ
wal_top store = (tip_of store.settings.segment store.history).end

-- of the data area of this number; of one that isn't there 0
abbrev pub data_count : ℕ → Faults → ℕ
data_count q faults =
    if q == 0 then faults.data0 else (if q == 1 then faults.data1
    else (if q == 2 then faults.data2 else (if q == 3 then faults.data3 else 0)))

abbrev pub count_of : StoreArea → Faults → ℕ
count_of Wal faults = faults.wal
count_of (Data q) faults = data_count q faults
count_of Sums faults = 0

-- no count fell
abbrev pub NoneFell : Faults → Faults → Type 0
NoneFell old new = (area : StoreArea) → count_of area old ≤ count_of area new

-- an area failed only where its count rose, which at its type's end stays; want of memory may come
-- at any time
abbrev pub StoreCause : Faults → Faults → StoreFault → Type 0
StoreCause old new (store.Failed area) = Rose (count_of area old) (count_of area new)
StoreCause old new store.NoMemory = Unit {0}
