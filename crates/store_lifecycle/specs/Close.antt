-- A store that was closed.
use Rattle.std.specs.Prelude.{◌≡◌, ℕ, ◌+◌, ◌<◌, ◌==◌, if◌then◌else◌, List, length, Option, Some, Result, Ok, Err}
use Rattle.std.specs.List.{All, sum_by}
use mathlib.Core.List.{IsPrefix}
use Rattle.lsn_core.specs.Files.{Files}
use Rattle.lsn_core.specs.Segment.{StoreSettings}
use Rattle.lsn_core.specs.Store.{Store, files_of}
use Rattle.lsn_core.specs.declared.lsn.Lsn.{Lsn}
use Rattle.lsn_core.specs.declared.fault.StoreArea.{StoreArea}
use Rattle.lsn_core.specs.declared.fault.StoreArea.TheVariants.{Wal, Data}
use Rattle.lsn_core.specs.declared.fault.StoreFault.{StoreFault}
use Rattle.lsn_core.specs.declared.fault.StoreFault.TheVariants as store
use Rattle.vault.specs.Frame.{IsDurable}
use Rattle.vault.specs.declared.area.Vault.{Ghosts}
use Rattle.history.specs.Entry.{Entry}
use Rattle.history.specs.partitions.Parts.{IsPart}
use Rattle.history.specs.fuzzy_copies.Logged.{log_of}
use Rattle.journal.specs.Lawful.{IsLawful}
use Rattle.store_areas.specs.declared.areas.StoreAreas.{StoreAreas}
use Rattle.store_areas.specs.Begin.{data_area}
use Rattle.store_locks.specs.Calls.{MayWriteWal, IsOfRun}
use Rattle.store_locks.specs.Records.{HoldsRecords}
use Rattle.store_locks.specs.Seen.{Seen, Booked}
use Rattle.store_locks.specs.Inside.{end_of}
use Rattle.store_locks.specs.Locked.{RunsOn, WalStart, HasRisen}
use Rattle.shared_store.specs.Shared.{CountsItsOwn}

-- an area tells just the files of a partition's part of a store
pub record HoldsPart (relseg q : ℕ) (store : Store) (files : Option Files) : Type 0 where
  pub part : Store
  pub is : IsPart q store part
  pub files_are : files ≡ Some (files_of relseg part)

-- a stop leaves the files of each area
pub record AreDurable {V : Type 0} (g : Ghosts V) (areas : StoreAreas V) : Type 0 where
  pub wal : IsDurable (g.files areas.wal) (g.past areas.wal)
  pub parts : (q : ℕ) → q < 4 → IsDurable (g.files (data_area areas q)) (g.past (data_area areas q))

-- the areas hold a history, durably: the WAL the records of its entries, up to where it ends, each
-- data area the files of its partition's part of the store that the history makes
pub record HoldsHistory {V : Type 0} (g : Ghosts V) (s : StoreSettings) (history : List Entry)
    (areas : StoreAreas V) : Type 0 where
  pub lawful : IsLawful s.segment history
  pub files : Files
  pub wal : g.files areas.wal ≡ Some files
  pub records :
      HoldsRecords s (log_of s.segment lawful.found lawful.own) (end_of s.segment history) files
  pub parts : (q : ℕ) → q < 4
      → HoldsPart s.relseg q lawful.store (g.files (data_area areas q))
  pub durable : AreDurable g areas

-- ---- faults, by area: 0 to 3 are the data areas, 4 is the WAL's

abbrev pub area_at : {V : Type 0} → StoreAreas V → ℕ → V
area_at areas a = if a == 4 then areas.wal else data_area areas a

abbrev pub area_of : ℕ → StoreArea
area_of a = if a == 4 then Wal else Data a

-- how many faults of one a worker was answered, and all workers together
abbrev pub booked_at : ℕ → Booked → ℕ
booked_at a b =
    if a == 0 then b.data0
    else (if a == 1 then b.data1
    else (if a == 2 then b.data2 else (if a == 3 then b.data3 else b.wal)))

abbrev pub all_booked : ℕ → List Seen → ℕ
all_booked a passes = sum_by (λ (p : Seen). booked_at a p.faults) passes

-- an area failed: its count has risen since the beginning by more than the workers were answered
pub record HasFailed {V : Type 0} (g : Ghosts V) (starts : ℕ → ℕ) (passes : List Seen)
    (areas : StoreAreas V) (which : StoreArea) : Type 0 where
  pub number : ℕ
  pub below : number < 5
  pub is : which ≡ area_of number
  pub risen :
      HasRisen (starts number) (all_booked number passes + 1) (g.faults (area_at areas number))

-- what closing answers: where the WAL ends, and then, where areas tell, they hold the history; or
-- why not all of it is known to be written
abbrev pub CloseAnswer : {V : Type 0} → Ghosts V → Type 0 → StoreSettings → List Entry → (ℕ → ℕ)
    → List Seen → StoreAreas V → Result Lsn StoreFault → Type 0
CloseAnswer g tells s history starts passes areas (Ok end) =
    (end.0 ≡ end_of s.segment history) × (tells → HoldsHistory g s history areas)
CloseAnswer g tells s history starts passes areas (Err (store.Failed which)) =
    HasFailed g starts passes areas which
CloseAnswer g tells s history starts passes areas (Err store.NoMemory) = Unit {0}

-- a store was closed: its history begins with what was found and goes on by its workers' entries;
-- each worker saw a beginning of it, and has in it just the commands that were accepted of it and
-- the marks that it made; of the WAL
-- only what wasn't flushed at the beginning was written; and the count of each area has risen by at
-- least the faults that the workers were answered
pub record IsClosed {V : Type 0} (g : Ghosts V) (tells : Type 0) (s : StoreSettings)
    (found : List Entry) (from : WalStart) (starts : ℕ → ℕ) (passes : List Seen)
    (areas : StoreAreas V) (result : Result Lsn StoreFault) : Type 0 where
  pub history : List Entry
  pub runs : RunsOn found history
  pub of_run : All (IsOfRun (length passes)) runs.own
  pub lawful : tells → IsLawful s.segment history
  pub seen : All (λ (p : Seen). IsPrefix p.list history) passes
  pub counted : All (CountsItsOwn history) passes
  pub wal : MayWriteWal s.segment from.flushed (end_of s.segment history) from.files
      (g.files areas.wal)
  pub risen : (a : ℕ) → a < 5
      → HasRisen (starts a) (all_booked a passes) (g.faults (area_at areas a))
  pub answer : CloseAnswer g tells s history starts passes areas result
