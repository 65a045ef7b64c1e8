-- The areas of a store by their names, whether one holds a file, and why one failed.
use Rattle.std.specs.Prelude.{◌≡◌, ◌≢◌, ◌==◌, ◌↔◌, List, ◌++◌, ℕ, Option, Bool, IsTrue, IfSome, codes, if◌then◌else◌}
use Rattle.std.specs.FinMap.{empty}
use Rattle.lsn_core.specs.Causes.{Rose}
use Rattle.lsn_core.specs.Files.{Files}
use Rattle.lsn_core.specs.declared.fault.AreaFault.{AreaFault}
use Rattle.lsn_core.specs.declared.fault.AreaFault.TheVariants.{Failed, NoMemory}
use Rattle.lsn_core.specs.declared.fault.StoreArea.{StoreArea}
use Rattle.lsn_core.specs.declared.fault.StoreArea.TheVariants.{Wal, Data, Sums}
use Rattle.vault.specs.Frame.{IsDurable}
use Rattle.vault.specs.Site.{AreaState}

-- the area of the WAL
abbrev pub wal_name : List ℕ
wal_name = codes "wal"

-- the data area of a partition, by its number from 0 to 3
abbrev pub data_name : ℕ → List ℕ
data_name q =
    if q == 0 then codes "data0"
    else (if q == 1 then codes "data1" else (if q == 2 then codes "data2" else codes "data3"))

-- the area of the summaries
abbrev pub sums_name : List ℕ
sums_name = codes "sums"

-- an area of a store
abbrev pub area_name : StoreArea → List ℕ
area_name Wal = wal_name
area_name (Data q) = data_name q
area_name Sums = sums_name

-- the area of an output
abbrev pub output_name : List ℕ → List ℕ
output_name name = codes "o/" ++ name

-- the area of a backup's directory
abbrev pub backup_name : List ℕ → List ℕ
backup_name name = codes "b/" ++ name

abbrev pub IsClear : AreaState → Type 0
IsClear area = IfSome area.files (λ m. m ≡ empty)

abbrev pub IsFull : AreaState → Type 0
IsFull area = IfSome area.files (λ m. m ≢ empty)

-- whether an area holds no file
abbrev pub TellsClear : Option Files → Bool → Type 0
TellsClear files clear = IfSome files (λ m. IsTrue clear ↔ (m ≡ empty))

-- an area's files are as they were
abbrev pub Keeps : AreaState → AreaState → Type 0
Keeps old new = new.files ≡ old.files

-- a stop leaves an area's files
abbrev pub AreaIsDurable : AreaState → Type 0
AreaIsDurable area = IsDurable area.files area.past

-- why a call failed: the count of faults rose, or memory ran out
abbrev pub AreaCause : ℕ → ℕ → AreaFault → Type 0
AreaCause before now Failed = Rose before now
AreaCause before now NoMemory = Unit {0}

-- the same of an area
abbrev pub AreaFails : AreaState → AreaState → AreaFault → Type 0
AreaFails old new why = AreaCause old.faults new.faults why
