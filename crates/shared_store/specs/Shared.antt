-- What the calls on a shared store answer, in terms of what a pass had seen and has seen then.
use Rattle.std.specs.Prelude.{◌≡◌, ℕ, ◌+◌, ◌<◌, ◌≤◌, ◌⊎◌, List, [], ◌∷◌, ◌++◌, length, slice_get, Some, Result, Ok, Err}
use Rattle.std.specs.List.{All, sum_by}
use mathlib.Core.List.{IsPrefix}
use Rattle.lsn_core.specs.declared.fault.StoreFault.{StoreFault}
use Rattle.history.specs.declared.op.Op.{Op}
use Rattle.lsn_core.specs.declared.fault.MarkFault.{MarkFault}
use Rattle.lsn_core.specs.declared.fault.MarkFault.TheVariants as mark
use Rattle.lsn_core.specs.declared.lsn.Lsn.{Lsn}
use Rattle.wal_writer.specs.declared.state.Flushed.{Flushed}
use Rattle.history.specs.Entry.{Entry, Marking, Mark, RedoMark, Online, BackupEnd}
use Rattle.store_locks.specs.declared.receipt.Receipt.{Receipt}
use Rattle.store_faults.specs.declared.insert_fault.InsertFault.{InsertFault}
use Rattle.store_locks.specs.declared.receipt.Redo.{Redo}
use Rattle.store_locks.specs.Seen.{Seen, Booked, accepted_by, marks_by, TakesFault, BooksOne, BooksIf, failed_area}
use Rattle.store_locks.specs.Locked.{Standing, AreNumbered, made_in}
use Rattle.store_locks.specs.Refusals.{IsRefusedBehind}
use Rattle.history.specs.fuzzy_copies.Taken.{IsSeen}
use Rattle.store_locks.specs.Copied.{HasRedoPoint}
use Rattle.store_locks.specs.Calls.{IsReceipt, IsTaken, IsMarkOf, HasNoRoom}

-- what a pass knows and has counted, but for the faults of the areas that have a lock of their own
abbrev pub own_of : Seen → Standing
own_of s = record {
  worker = s.worker;
  accepted = s.accepted;
  marks = s.marks;
  list = s.list;
  wal = s.faults.wal;
}

-- no fault of these was booked
pub record SameData (old new : Booked) : Type 0 where
  pub data0 : new.data0 ≡ old.data0
  pub data1 : new.data1 ≡ old.data1
  pub data2 : new.data2 ≡ old.data2
  pub data3 : new.data3 ≡ old.data3
  pub sums : new.sums ≡ old.sums

-- a call that failed booked the fault that it answers, and one that succeeded none
abbrev pub TakesFaults : {T : Type 0} → Seen → Seen → Result T StoreFault → Type 0
TakesFaults old new (Ok x) = new.faults ≡ old.faults
TakesFaults old new (Err fault) = TakesFault old new fault

-- a command was accepted behind a history that begins with what was seen, and its entry is the last
-- one that has been seen now
pub record HasInserted (tells : Type 0) (mib : ℕ) (command : Op) (old new : Seen)
    (receipt : Receipt) : Type 0 where
  pub before : List Entry
  pub past : IsPrefix old.list before
  pub receipt_is : IsReceipt old.worker command before new.list receipt
  pub taken : tells → IsTaken mib command before receipt
  pub counted : new.accepted ≡ old.accepted + 1

-- or it was refused behind all that has been seen now
pub record HasRefused (tells : Type 0) (mib : ℕ) (command : Op) (old new : Seen)
    (fault : InsertFault) : Type 0 where
  pub refused : tells → IsRefusedBehind mib new.list command fault
  pub counted : new.accepted ≡ old.accepted

abbrev pub InsertAnswer :
    Type 0 → ℕ → Op → Seen → Seen → Result Receipt InsertFault → Type 0
InsertAnswer tells mib command old new (Ok receipt) = HasInserted tells mib command old new receipt
InsertAnswer tells mib command old new (Err fault) = HasRefused tells mib command old new fault

-- it booked the fault of the area that failed before it was judged, where that is why it was
-- refused
abbrev pub TakesInsertFault : Seen → Seen → Result Receipt InsertFault → Type 0
TakesInsertFault old new (Ok receipt) = new.faults ≡ old.faults
TakesInsertFault old new (Err fault) = BooksIf (failed_area fault) old new

-- ---- checkpoints

-- a checkpoint: its start comes behind a history that begins with what was seen, its end behind
-- that; between them other workers' entries may stand. Its end is the last entry that has been seen
-- now, and the WAL is flushed up to there
pub record HasCheckpointIn (worker : ℕ) (old new : List Entry) (redo : Redo) (flushed : Flushed)
    : Type 0 where
  pub before : List Entry
  pub between : List Entry
  pub first : Entry
  pub last : Entry
  pub past : IsPrefix old before
  pub grown : new ≡ before ++ (first ∷ (between ++ (last ∷ [])))
  pub starts : IsMarkOf worker (RedoMark 1) first
  pub ends : IsMarkOf worker (Online redo.redo.0) last
  pub redo_is : redo.redo.0 ≡ first.start
  pub at_is : redo.at.0 ≡ last.start
  pub rises : redo.redo.0 < last.end
  pub reached : last.end ≤ flushed.to.0

-- a checkpoint's start comes behind a history, and what was seen behind it
pub record HasStarted (worker : ℕ) (before new : List Entry) : Type 0 where
  pub first : Entry
  pub behind : List Entry
  pub starts : IsMarkOf worker (RedoMark 1) first
  pub grown : new ≡ before ++ (first ∷ behind)

-- one that failed left its start, or that and its end, or neither, in what has been seen now
pub record MayHaveStarted (worker : ℕ) (old new : List Entry) : Type 0 where
  pub before : List Entry
  pub past : IsPrefix old before
  pub left : (new ≡ before) ⊎ HasStarted worker before new

-- it finds no room behind a history: its start, or its end, the start being there, which a worker
-- made behind so many entries
abbrev pub FindsNoRoomIn : ℕ → ℕ → ℕ → List Entry → Type 0
FindsNoRoomIn mib worker before now =
    HasNoRoom mib now (Mark (RedoMark 1))
    ⊎ ((first : Entry) × (number : ℕ) × (before ≤ number) × (slice_get now number ≡ Some first)
    × IsMarkOf worker (RedoMark 1) first × HasNoRoom mib now (Mark (Online first.start)))

-- so behind all that has been seen now, where want of room is why it failed
abbrev pub MayFindNoRoom : ℕ → ℕ → ℕ → List Entry → MarkFault → Type 0
MayFindNoRoom mib worker before new (mark.Failed area) = Unit {0}
MayFindNoRoom mib worker before new (mark.WalFull n) =
    (n ≡ length new) × FindsNoRoomIn mib worker before new
MayFindNoRoom mib worker before new mark.NoMemory = Unit {0}

-- the faults that a call of marks booked
abbrev pub TakesMarkFault : {T : Type 0} → Seen → Seen → Result T MarkFault → Type 0
TakesMarkFault old new (Ok x) = new.faults ≡ old.faults
TakesMarkFault old new (Err (mark.Failed area)) = BooksOne area old new
TakesMarkFault old new (Err (mark.WalFull n)) = new.faults ≡ old.faults
TakesMarkFault old new (Err mark.NoMemory) = new.faults ≡ old.faults

-- ---- the end of a backup

pub record HasEnded (worker start : ℕ) (old new : List Entry) (end : Lsn) (flushed : Flushed)
    : Type 0 where
  pub before : List Entry
  pub entry : Entry
  pub past : IsPrefix old before
  pub grown : new ≡ before ++ (entry ∷ [])
  pub is : IsMarkOf worker (BackupEnd start) entry
  pub end_is : end.0 ≡ entry.end
  pub reached : end.0 ≤ flushed.to.0

-- one that failed left its entry, or none, in what has been seen now
pub record MayHaveEnded (worker start : ℕ) (old new : List Entry) : Type 0 where
  pub before : List Entry
  pub past : IsPrefix old before
  pub left : (new ≡ before)
      ⊎ ((entry : Entry) × IsMarkOf worker (BackupEnd start) entry × (new ≡ before ++ (entry ∷ [])))

-- where a mark found no room: behind all that has been seen now
abbrev pub MayFindNoRoomFor : Marking → ℕ → List Entry → MarkFault → Type 0
MayFindNoRoomFor marking mib new (mark.Failed area) = Unit {0}
MayFindNoRoomFor marking mib new (mark.WalFull n) =
    (n ≡ length new) × HasNoRoom mib new (Mark marking)
MayFindNoRoomFor marking mib new mark.NoMemory = Unit {0}

-- ---- laws

-- a checkpoint leaves its redo point in what has been seen then
abbrev pub CheckpointsLeaveRedoPoints : Type 0
CheckpointsLeaveRedoPoints =
    (worker : ℕ) (old new : List Entry) (redo : Redo) (flushed : Flushed)
    → HasCheckpointIn worker old new redo flushed → HasRedoPoint new redo.redo.0

-- what was seen before a backup ended, by a pass that begins with it, was seen behind its start and
-- before its end
abbrev pub EndsComeBehind : Type 0
EndsComeBehind =
    (worker start from : ℕ) (seen old new : List Entry) (end : Lsn) (flushed : Flushed)
    → HasRedoPoint seen from → IsPrefix seen old → HasEnded worker start old new end flushed
    → IsSeen seen new from end.0

-- a pass counted just the commands and the marks that its worker has in a history
pub record CountsItsOwn (history : List Entry) (pass : Seen) : Type 0 where
  pub commands : pass.accepted ≡ length (accepted_by pass.worker history)
  pub marks : pass.marks ≡ length (marks_by pass.worker history)

-- or no more of them
pub record CountsNoMore (history : List Entry) (pass : Seen) : Type 0 where
  pub commands : pass.accepted ≤ length (accepted_by pass.worker history)
  pub marks : pass.marks ≤ length (marks_by pass.worker history)

-- the passes of all workers, in order, that together counted as many entries as workers made, and
-- none more than its worker has in a history: each counted just its worker's
abbrev pub PassesCountTheirEntries : Type 0
PassesCountTheirEntries =
    (passes : List Seen) (history : List Entry)
    → AreNumbered (λ (p : Seen). p.worker) 0 passes
    → All (CountsNoMore history) passes
    → sum_by (λ (p : Seen). p.accepted + p.marks) passes ≡ length (made_in history)
    → All (CountsItsOwn history) passes
