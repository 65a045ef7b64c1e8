-- What the calls on an open store answer, over its history.
use Rattle.std.specs.Prelude.{◌≡◌, ℕ, ◌-◌, ◌<◌, ◌⊎◌, true, List, [], ◌∷◌, ◌++◌, length, Option, Some, None}
use Rattle.std.specs.FinMap.{empty}
use Rattle.lsn_core.specs.Files.{Files}
use Rattle.lsn_core.specs.Store.{Store}
use Rattle.vault.specs.Area.{Related}
use Rattle.vault.specs.Frame.{AgreeBut}
use Rattle.wal_record.specs.Tips.{wal_limit}
use Rattle.history.specs.declared.op.Op.{Op}
use Rattle.history.specs.Entry.{Entry, Act, Mark, Marking, RedoMark, Online, BackupEnd}
use Rattle.history.specs.Apply.{apply_all}
use Rattle.history.specs.Op.{act_of_op}
use Rattle.history.specs.Written.{record_of, tip_of}
use Rattle.wal_writer.specs.Stops.{Leaves, IsSegmentFile}
use Rattle.store_locks.specs.declared.receipt.Receipt.{Receipt}
use Rattle.store_locks.specs.Seen.{accepted_by, is_by}
use Rattle.store_locks.specs.Refusals.{judged_at}
use Rattle.std.specs.Prelude.{◌≤◌}
use Rattle.history.specs.fuzzy_copies.Orderly.{AllEndBy}

-- a command was accepted: the history goes on with its entry, at that number and place, by the
-- worker, with the next number among its commands
pub record IsReceipt (worker : ℕ) (command : Op) (old new : List Entry) (receipt : Receipt)
    : Type 0 where
  pub entry : Entry
  pub grown : new ≡ old ++ (entry ∷ [])
  pub act : entry.act ≡ act_of_op command
  pub by : entry.worker ≡ Some worker
  pub seq : entry.seq ≡ Some receipt.seq
  pub number : receipt.number ≡ length old
  pub next : receipt.seq ≡ length (accepted_by worker old)
  pub start : receipt.place.start.0 ≡ entry.start
  pub end : receipt.place.end.0 ≡ entry.end

-- nothing refused it there, and its entry stands where it is written next
pub record IsTaken (mib : ℕ) (command : Op) (old : List Entry) (receipt : Receipt) : Type 0 where
  pub store : Store
  pub state : apply_all empty old ≡ Some store
  pub taken : judged_at mib store (tip_of mib old) command ≡ None
  pub start : receipt.place.start ≡ (record_of mib store (tip_of mib old) (act_of_op command)).start
  pub end : receipt.place.end ≡ (record_of mib store (tip_of mib old) (act_of_op command)).end

-- the most bytes of the WAL that wait to be flushed before a command (profile)
abbrev pub most_waiting : ℕ
most_waiting = 4194304

-- the entry of a mark by a worker
abbrev pub IsMarkOf : ℕ → Marking → Entry → Type 0
IsMarkOf worker marking entry =
    (entry.act ≡ Mark marking) × (entry.worker ≡ Some worker) × (entry.seq ≡ None)

-- as the start or the end of a checkpoint, or the end of a backup
abbrev pub IsMarkBy : ℕ → Entry → Type 0
IsMarkBy worker entry =
    IsMarkOf worker (RedoMark 1) entry
    ⊎ (((redo : ℕ) × IsMarkOf worker (Online redo) entry)
    ⊎ ((start : ℕ) × IsMarkOf worker (BackupEnd start) entry))

-- a worker made the entry, by a command or as such a mark
abbrev pub IsOfWorker : ℕ → Entry → Type 0
IsOfWorker worker entry = (is_by worker entry ≡ true) ⊎ IsMarkBy worker entry

-- one of so many workers made it
abbrev pub IsOfRun : ℕ → Entry → Type 0
IsOfRun workers entry = (worker : ℕ) × (worker < workers) × IsOfWorker worker entry

-- an entry of a mark would end past the room of the WAL
pub record HasNoRoom (mib : ℕ) (history : List Entry) (act : Act) : Type 0 where
  pub past : (store : Store) → wal_limit mib < (record_of mib store (tip_of mib history) act).end.0

-- all entries that were seen end at a place or before it, which is in the room of the WAL
pub record IsPlaced (mib : ℕ) (list : List Entry) (end : ℕ) : Type 0 where
  pub last : AllEndBy end list
  pub room : end ≤ wal_limit mib

-- ---- what every call leaves

-- of the archive only bytes from a place on and before another one may have changed, and no files
-- but those of segments that reach behind the first place and start before the other; what was held
-- before it is held still
pub record MayWriteWal (mib from to : ℕ) (old new : Option Files) : Type 0 where
  pub left : Leaves mib from (to - from) old new
  pub files : Related (AgreeBut (IsSegmentFile mib from to)) old new
