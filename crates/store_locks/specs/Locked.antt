-- What lies under the locks of an open store, and what it keeps there.
use Rattle.std.specs.Prelude.{◌≡◌, ℕ, ◌+◌, ◌-◌, ◌^◌, ◌<◌, ◌≤◌, ◌⊎◌, min, true, List, [], ◌∷◌, ◌++◌, length, drop, Option, Some, None, Result, Ok, Err}
use Rattle.std.specs.List.{All, filter}
use Rattle.lsn_core.specs.Files.{Files}
use Rattle.lsn_core.specs.Segment.{StoreSettings}
use Rattle.lsn_core.specs.declared.fault.StoreArea.{StoreArea}
use Rattle.lsn_core.specs.declared.fault.StoreArea.TheVariants.{Wal, Data}
use Rattle.lsn_core.specs.declared.fault.StoreFault.{StoreFault}
use Rattle.lsn_core.specs.declared.fault.StoreFault.TheVariants as store
use Rattle.vault.specs.declared.area.Vault.{Ghosts}
use Rattle.lsn_core.specs.declared.lsn.Place.{Place}
use Rattle.lsn_core.specs.declared.fault.MarkFault.{MarkFault}
use Rattle.wal_writer.specs.declared.state.Flushed.{Flushed}
use Rattle.history.specs.Entry.{Entry, Marking, Mark, is_of_run}
use Rattle.history.specs.partitions.Parts.{concerns}
use Rattle.journal.specs.Journal.{Written}
use Rattle.journal.specs.Lawful.{IsLawful}
use Rattle.page_pool.specs.Part.{Part}
use Rattle.page_pool.specs.Facts.{history_end}
use mathlib.Core.List.{IsPrefix}
use Rattle.store_ledgers.specs.Counts.{Counts, Held, count_at}
use Rattle.page_pool.specs.Facts.{IsPartOf}
use Rattle.store_locks.specs.Open.{IsWalOf, AreCounts}
use Rattle.history.specs.declared.op.Op.{Op}
use Rattle.store_locks.specs.declared.receipt.Receipt.{Receipt}
use Rattle.store_faults.specs.declared.insert_fault.InsertFault.{InsertFault}
use Rattle.store_locks.specs.Refusals.{IsRefusedBehind}
use Rattle.store_locks.specs.Calls.{MayWriteWal, IsReceipt, IsTaken, IsOfRun}
use Rattle.store_locks.specs.Inside.{written_end, HasMark, IsFullFor, mark_fault}
use Rattle.store_locks.specs.Seen.{Seen, Booked, marks_by, no_faults, both_booked, failed_area}

-- a history begins with what was found, and what comes behind it is of this run
pub record RunsOn (found history : List Entry) : Type 0 where
  pub own : List Entry
  pub all : history ≡ found ++ own
  pub by : All (λ e. is_of_run e ≡ true) own

-- the entries that the workers of a run made
abbrev pub made_in : List Entry → List Entry
made_in history = filter is_of_run history

-- how many of some entries concern a partition, and how many of a run's
abbrev pub concerned : ℕ → List Entry → ℕ
concerned q entries = length (filter (concerns q) entries)

abbrev pub own_count : ℕ → List Entry → List Entry → ℕ
own_count q found history = concerned q (drop (length found) history)

-- an area that had failed so often at the beginning failed since at least as often as is booked,
-- and no failure was forgotten
abbrev pub HasRisen : ℕ → ℕ → ℕ → Type 0
HasRisen start booked now = (start ≤ now) × (min (start + booked) (2 ^ 64 - 1) ≤ now)

-- the WAL's area as it was at the beginning: its files, where it told them, and the place up to
-- which it was flushed
pub record WalStart : Type 0 where
  pub files : Option Files
  pub flushed : ℕ

-- ---- the lock of the WAL

-- what its value keeps: the history, which all notes begin and behind what was found is the
-- workers' own, the WAL that tells it, and the books of the partitions' entries, of the workers'
-- entries, and of the faults of the WAL's area
pub record IsDesk {W : Type 0} (g : Ghosts W) (settings : StoreSettings) (tells : Type 0)
    (found : List Entry) (workers : ℕ) (from : WalStart) (start : ℕ) (journal : Written W)
    (mark : ℕ) (counts : List ℕ) (entries : Counts) (made faults : ℕ) : Type 0 where
  pub wal : IsWalOf g settings tells journal.wal mark
  pub grown : RunsOn found journal.pen
  pub of_run : All (IsOfRun workers) grown.own
  pub counted : AreCounts counts journal.pen
  pub crew : length counts ≡ workers
  pub booked : made ≡ length (made_in journal.pen)
  pub concerned_are : (q : ℕ) → q < 4 → count_at q entries ≡ own_count q found journal.pen
  pub risen : HasRisen start faults (g.faults journal.wal.area)
  pub within : from.flushed ≤ journal.wal.tail.flushed
  pub since : MayWriteWal settings.segment from.flushed (written_end journal) from.files
      (g.files journal.wal.area)

-- ---- the lock of a partition

-- what its value keeps: a partition that follows a beginning of the history, all shares of its
-- entries there, and the book of its area's faults
pub record IsHeldPart (q : ℕ) (settings : StoreSettings) (tells : Type 0) (found : List Entry)
    (start : ℕ) (part : Part) (list : List Entry) (share : Held) (faults : ℕ) : Type 0 where
  pub is : IsPartOf q settings.relseg tells list part
  pub lawful : tells → IsLawful settings.segment list
  pub grown : RunsOn found list
  pub whole : count_at q share.parts ≡ 1
  pub counted : count_at q share.amounts ≡ own_count q found list
  pub risen : HasRisen start faults part.faults

-- what its calls show: the beginning that it follows, and the partition
pub record Shown : Type 0 where
  pub list : List Entry
  pub part : Part

-- ---- a pass

-- what it knows and has counted, but for the faults of the other areas
pub record Standing : Type 0 where
  pub worker : ℕ
  pub accepted : ℕ
  pub marks : ℕ
  pub list : List Entry
  pub wal : ℕ

-- it has lost nothing of what it had seen, and counted no mark
pub record Moves (old new : Standing) : Type 0 where
  pub seen : IsPrefix old.list new.list
  pub worker : new.worker ≡ old.worker
  pub marks : new.marks ≡ old.marks

-- and counted no command and no mark
pub record Follows (old new : Standing) : Type 0 where
  pub seen : IsPrefix old.list new.list
  pub ends : history_end old.list ≤ history_end new.list
  pub worker : new.worker ≡ old.worker
  pub accepted : new.accepted ≡ old.accepted
  pub marks : new.marks ≡ old.marks

-- or it may have counted marks, and no command
pub record GoesOn (old new : Standing) : Type 0 where
  pub seen : IsPrefix old.list new.list
  pub ends : history_end old.list ≤ history_end new.list
  pub worker : new.worker ≡ old.worker
  pub accepted : new.accepted ≡ old.accepted

-- ---- faults that are booked

-- one where the area failed
abbrev pub failures : StoreFault → ℕ
failures (store.Failed area) = 1
failures store.NoMemory = 0

-- it was the WAL's area, if any
abbrev pub IsOfWal : StoreFault → Type 0
IsOfWal (store.Failed area) = area ≡ Wal
IsOfWal store.NoMemory = Unit {0}

-- it was that of a partition
abbrev pub IsOfData : ℕ → StoreFault → Type 0
IsOfData q (store.Failed area) = area ≡ Data q
IsOfData q store.NoMemory = Unit {0}

-- a call that works on the WAL's area alone: where that failed, its fault is booked
abbrev pub BooksWal : {T : Type 0} → ℕ → ℕ → Result T StoreFault → Type 0
BooksWal old now (Ok x) = now ≡ old
BooksWal old now (Err fault) = IsOfWal fault × (now ≡ old + failures fault)

-- one that works on a partition's area alone
abbrev pub BooksData : {T : Type 0} → ℕ → ℕ → ℕ → Result T StoreFault → Type 0
BooksData q old now (Ok x) = now ≡ old
BooksData q old now (Err fault) = IsOfData q fault × (now ≡ old + failures fault)

-- one that works on both: one of them failed, if any, and its fault is booked
abbrev pub BooksEither : ℕ → ℕ → ℕ → ℕ → ℕ → StoreFault → Type 0
BooksEither q wal wal_now own own_now fault =
    (IsOfWal fault × (wal_now ≡ wal + failures fault) × (own_now ≡ own))
    ⊎ (IsOfData q fault × (wal_now ≡ wal) × (own_now ≡ own + failures fault))

abbrev pub BooksBoth : {T : Type 0} → ℕ → ℕ → ℕ → ℕ → ℕ → Result T StoreFault → Type 0
BooksBoth q wal wal_now own own_now (Ok x) = (wal_now ≡ wal) × (own_now ≡ own)
BooksBoth q wal wal_now own own_now (Err fault) = BooksEither q wal wal_now own own_now fault

-- the same of a command: where an area failed before it was judged
abbrev pub BooksFailed : ℕ → ℕ → ℕ → ℕ → ℕ → Option StoreArea → Type 0
BooksFailed q wal wal_now own own_now None = (wal_now ≡ wal) × (own_now ≡ own)
BooksFailed q wal wal_now own own_now (Some area) =
    ((area ≡ Wal) × (wal_now ≡ wal + 1) × (own_now ≡ own))
    ⊎ ((area ≡ Data q) × (wal_now ≡ wal) × (own_now ≡ own + 1))

abbrev pub BooksInsert : ℕ → ℕ → ℕ → ℕ → ℕ → Result Receipt InsertFault → Type 0
BooksInsert q wal wal_now own own_now (Ok receipt) = (wal_now ≡ wal) × (own_now ≡ own)
BooksInsert q wal wal_now own own_now (Err fault) =
    BooksFailed q wal wal_now own own_now (failed_area fault)

-- ---- commands

-- a command was accepted behind a history that begins with what was seen
pub record IsInserted (tells : Type 0) (mib : ℕ) (command : Op) (old new : Standing)
    (receipt : Receipt) : Type 0 where
  pub before : List Entry
  pub past : IsPrefix old.list before
  pub receipt_is : IsReceipt old.worker command before new.list receipt
  pub taken : tells → IsTaken mib command before receipt
  pub counted : new.accepted ≡ old.accepted + 1

-- or it was refused there, and all that was seen then is that history
pub record IsNotInserted (tells : Type 0) (mib : ℕ) (command : Op) (old new : Standing)
    (fault : InsertFault) : Type 0 where
  pub past : IsPrefix old.list new.list
  pub refused : tells → IsRefusedBehind mib new.list command fault
  pub counted : new.accepted ≡ old.accepted

abbrev pub Inserts :
    Type 0 → ℕ → Op → Standing → Standing → Result Receipt InsertFault → Type 0
Inserts tells mib command old new (Ok receipt) =
    IsInserted tells mib command old new receipt × (new.worker ≡ old.worker)
Inserts tells mib command old new (Err fault) =
    IsNotInserted tells mib command old new fault × (new.worker ≡ old.worker)

-- ---- marks

-- a mark came behind a history that begins with what was seen, and is the last entry that has been
-- seen now
pub record HasMarked (marking : Marking) (old new : Standing) (place : Place) : Type 0 where
  pub before : List Entry
  pub past : IsPrefix old.list before
  pub ends : history_end old.list ≤ history_end before
  pub mark : HasMark old.worker marking before new.list place
  pub worker : new.worker ≡ old.worker
  pub accepted : new.accepted ≡ old.accepted
  pub marks : new.marks ≡ old.marks + 1

-- or there was no room for it behind all that has been seen now, or no memory
pub record HasNotMarked (mib : ℕ) (marking : Marking) (old new : Standing) (fault : MarkFault)
    : Type 0 where
  pub was : Follows old new
  pub full : IsFullFor (Mark marking) mib new.list fault

-- how many marks a call made of one
abbrev pub marks_of : {T : Type 0} → Result T MarkFault → ℕ
marks_of (Ok x) = 1
marks_of (Err fault) = 0

-- a worker that saw the whole history sees it still, and counts the mark that was made, if any
pub record BooksMark {T : Type 0} (old new : Standing) (history : List Entry)
    (result : Result T MarkFault) : Type 0 where
  pub whole : new.list ≡ history
  pub worker : new.worker ≡ old.worker
  pub accepted : new.accepted ≡ old.accepted
  pub marks : new.marks ≡ old.marks + marks_of result
  pub faults : new.wal ≡ old.wal

-- one more mark of a worker stands in a history than it has seen
pub record HasMoreMarks (old : Standing) (history : List Entry) : Type 0 where
  pub seen : IsPrefix old.list history
  pub more : length (marks_by old.worker old.list) < length (marks_by old.worker history)

abbrev pub AppendsMark :
    ℕ → Marking → Standing → Standing → Result Place MarkFault → Type 0
AppendsMark mib marking old new (Ok place) = HasMarked marking old new place
AppendsMark mib marking old new (Err fault) = HasNotMarked mib marking old new fault

-- where the WAL is flushed up to the mark: it is, or the WAL's area failed behind it, whose fault
-- is booked, or there was no memory for the flush
abbrev pub FlushesMark :
    ℕ → Marking → Standing → Standing → Result (Place × Flushed) MarkFault → Type 0
FlushesMark mib marking old new (Ok x) =
    HasMarked marking old new x.0 × (x.0.end.0 ≤ x.1.to.0) × (new.wal ≡ old.wal)
FlushesMark mib marking old new (Err fault) =
    (HasNotMarked mib marking old new fault × (new.wal ≡ old.wal))
    ⊎ ((place : Place) × HasMarked marking old new place
    × (why : StoreFault) × (fault ≡ mark_fault why) × IsOfWal why
    × (new.wal ≡ old.wal + failures why))

-- shares of several workers together: of how many, and what stands on them
pub record AllHeld : Type 0 where
  pub parts : ℕ
  pub made : ℕ
  pub faults : Booked

-- those of these workers, gathered behind others
abbrev pub gathered : AllHeld → List Seen → AllHeld
gathered all [] = all
gathered all (pass ∷ passes) = record {
  parts = (gathered all passes).parts + 1;
  made = (gathered all passes).made + (pass.accepted + pass.marks);
  faults = both_booked (gathered all passes).faults pass.faults;
}

-- so many, with nothing on them
abbrev pub empty_shares : ℕ → AllHeld
empty_shares parts = record { parts = parts; made = 0; faults = no_faults }

-- a list's items have these numbers, from one on, in order
abbrev pub AreNumbered : {X : Type 0} → (X → ℕ) → ℕ → List X → Type 0
AreNumbered number n [] = Unit {0}
AreNumbered number n (x ∷ xs) = (number x ≡ n) × AreNumbered number (n + 1) xs
