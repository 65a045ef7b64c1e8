-- What a worker has seen of the history, and its commands and marks there.
use Rattle.std.specs.Prelude.{◌≡◌, ℕ, ◌+◌, ◌<◌, ◌≤◌, ◌==◌, ◌&&◌, Bool, false, List, Option, Some, None, not, if◌then◌else◌}
use Rattle.std.specs.Option.{is_some}
use Rattle.std.specs.List.{filter}
use mathlib.Core.List.{IsPrefix}
use Rattle.history.specs.Entry.{Entry}
use Rattle.lsn_core.specs.declared.fault.StoreArea.{StoreArea}
use Rattle.lsn_core.specs.declared.fault.StoreArea.TheVariants.{Wal, Data, Sums}
use Rattle.lsn_core.specs.declared.fault.StoreFault.{StoreFault}
use Rattle.lsn_core.specs.declared.fault.StoreFault.TheVariants as store
use Rattle.store_faults.specs.declared.insert_fault.InsertFault.{InsertFault}
use Rattle.store_faults.specs.declared.insert_fault.InsertFault.TheVariants as insert

-- how many faults of each area of a store a worker was answered
pub record Booked : Type 0 where
  pub wal : ℕ
  pub data0 : ℕ
  pub data1 : ℕ
  pub data2 : ℕ
  pub data3 : ℕ
  pub sums : ℕ

abbrev pub no_faults : Booked
no_faults = record { wal = 0; data0 = 0; data1 = 0; data2 = 0; data3 = 0; sums = 0 }

-- two such together
abbrev pub both_booked : Booked → Booked → Booked
both_booked a b = record {
  wal = a.wal + b.wal;
  data0 = a.data0 + b.data0;
  data1 = a.data1 + b.data1;
  data2 = a.data2 + b.data2;
  data3 = a.data3 + b.data3;
  sums = a.sums + b.sums;
}

-- what a pass shows: its worker's number, how many commands of it were accepted, how many marks it
-- made, the beginning of the history that it has seen, and how many faults it was answered
pub record Seen : Type 0 where
  pub worker : ℕ
  pub accepted : ℕ
  pub marks : ℕ
  pub list : List Entry
  pub faults : Booked

-- a pass that has seen a history: none of its commands was accepted yet, it made no mark, and it
-- was answered no fault
abbrev pub fresh_pass : ℕ → List Entry → Seen
fresh_pass worker history = record {
  worker = worker;
  accepted = 0;
  marks = 0;
  list = history;
  faults = no_faults;
}

-- nothing that was seen is lost, and the worker stays
pub record StaysBy (old new : Seen) : Type 0 where
  pub seen : IsPrefix old.list new.list
  pub worker : new.worker ≡ old.worker

abbrev pub is_number : ℕ → Option ℕ → Bool
is_number n None = false
is_number n (Some m) = m == n

-- this worker made the entry by a command
abbrev pub is_by : ℕ → Entry → Bool
is_by worker entry = is_number worker entry.worker && is_some entry.seq

-- the accepted commands of a worker, in order
abbrev pub accepted_by : ℕ → List Entry → List Entry
accepted_by worker history = filter (is_by worker) history

-- this worker made the entry as a mark
abbrev pub is_mark_by : ℕ → Entry → Bool
is_mark_by worker entry = is_number worker entry.worker && not (is_some entry.seq)

-- the marks of a worker, in order: starts and ends of checkpoints, and ends of backups
abbrev pub marks_by : ℕ → List Entry → List Entry
marks_by worker history = filter (is_mark_by worker) history

-- ---- faults

-- one more of an area
abbrev pub with_data : ℕ → Booked → Booked
with_data q b =
    if q == 0 then record b { data0 = b.data0 + 1 }
    else (if q == 1 then record b { data1 = b.data1 + 1 }
    else (if q == 2 then record b { data2 = b.data2 + 1 }
    else (if q == 3 then record b { data3 = b.data3 + 1 } else b)))

abbrev pub with_fault : StoreArea → Booked → Booked
with_fault Wal b = record b { wal = b.wal + 1 }
with_fault (Data q) b = with_data q b
with_fault Sums b = record b { sums = b.sums + 1 }

-- how many of an area
abbrev pub share_of_data : ℕ → Booked → ℕ
share_of_data q b =
    if q == 0 then b.data0
    else (if q == 1 then b.data1 else (if q == 2 then b.data2 else (if q == 3 then b.data3 else 0)))

abbrev pub share_of : StoreArea → Booked → ℕ
share_of Wal b = b.wal
share_of (Data q) b = share_of_data q b
share_of Sums b = b.sums

-- none of an area is lost
pub record SharesStay (old new : Booked) : Type 0 where
  pub later : (area : StoreArea) → share_of area old ≤ share_of area new

-- a worker was answered one more of an area
abbrev pub ShareRose : StoreArea → Seen → Seen → Type 0
ShareRose area old new = share_of area old.faults < share_of area new.faults

-- the area is one of a store's
abbrev pub IsThere : StoreArea → Type 0
IsThere Wal = Unit {0}
IsThere (Data q) = q < 4
IsThere Sums = Unit {0}

-- this area failed: its fault is booked, and no other
abbrev pub BooksOne : StoreArea → Seen → Seen → Type 0
BooksOne area old new = IsThere area × (new.faults ≡ with_fault area old.faults)

-- a call failed: the fault of the area that it names is booked, and no other
abbrev pub TakesFault : Seen → Seen → StoreFault → Type 0
TakesFault old new (store.Failed area) = BooksOne area old new
TakesFault old new store.NoMemory = new.faults ≡ old.faults

-- the area that failed before a command was judged, if that is why it was refused
abbrev pub failed_area : InsertFault → Option StoreArea
failed_area (insert.Failed area) = Some area
failed_area fault = None

-- the fault of that area is booked, and no other
abbrev pub BooksIf : Option StoreArea → Seen → Seen → Type 0
BooksIf None old new = new.faults ≡ old.faults
BooksIf (Some area) old new = BooksOne area old new
