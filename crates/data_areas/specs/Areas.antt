-- The four data areas of a store.
use Rattle.std.specs.Prelude.{◌≡◌, ℕ, ◌<◌, ◌≤◌, ◌==◌, List, [], ◌∷◌, if◌then◌else◌}
use Rattle.std.specs.Option.{is_some}
use Rattle.lsn_core.specs.Causes.{Rose}
use Rattle.lsn_core.specs.declared.fault.AreaFault.{AreaFault}
use Rattle.lsn_core.specs.declared.fault.AreaFault.TheVariants as area
use Rattle.lsn_core.specs.declared.fault.StoreFault.{StoreFault}
use Rattle.lsn_core.specs.declared.fault.StoreFault.TheVariants.{Failed, NoMemory}
use Rattle.lsn_core.specs.declared.fault.StoreArea.TheVariants.{Wal, Data, Sums}
use Rattle.vault.specs.declared.area.Vault.{Ghosts}
use Rattle.data_areas.specs.declared.areas.DataAreas.{DataAreas}

-- the area of a number
abbrev pub area_of : {V : Type 0} → DataAreas V → ℕ → V
area_of areas q =
    if q == 0 then areas.data0
    else (if q == 1 then areas.data1 else (if q == 2 then areas.data2 else areas.data3))

-- all four, in order
abbrev pub listed : {V : Type 0} → DataAreas V → List V
listed areas = areas.data0 ∷ (areas.data1 ∷ (areas.data2 ∷ (areas.data3 ∷ [])))

-- no area's count of faults fell
abbrev pub FaultsGrow : {V : Type 0} → Ghosts V → DataAreas V → DataAreas V → Type 0
FaultsGrow g old new = (q : ℕ) → g.faults (area_of old q) ≤ g.faults (area_of new q)

-- areas tell their files where others do
abbrev pub TellAlike : {V : Type 0} → Ghosts V → DataAreas V → DataAreas V → Type 0
TellAlike g old new =
    (q : ℕ) → is_some (g.files (area_of new q)) ≡ is_some (g.files (area_of old q))

-- the fault of a data area, by its number
abbrev pub data_fault : ℕ → AreaFault → StoreFault
data_fault number area.Failed = Failed (Data number)
data_fault number area.NoMemory = NoMemory

-- a data area failed only where its count rose; want of memory may come at any time
abbrev pub DataCause : {V : Type 0} → Ghosts V → DataAreas V → DataAreas V → StoreFault → Type 0
DataCause g old new (Failed (Data q)) =
    (q < 4) × Rose (g.faults (area_of old q)) (g.faults (area_of new q))
DataCause g old new (Failed Wal) = ⊥
DataCause g old new (Failed Sums) = ⊥
DataCause g old new NoMemory = Unit {0}
