-- What the functions answer that work under the locks.
use Rattle.std.specs.Prelude.{◌≡◌, ℕ, ◌+◌, ◌-◌, ◌^◌, ◌<◌, ◌≤◌, min, ◌&&◌, Bool, true, false, List, [], ◌∷◌, ◌++◌, map, length, nat_lt, Option, Some, None, IsSome, Result, Ok, Err, IsOk, IfOk}
use mathlib.Core.List.{IsPrefix}
use Rattle.std.specs.List.{All}
use Rattle.std.specs.Global.{Vec}
use Rattle.std.specs.FinMap.{empty}
use Rattle.lsn_core.specs.declared.lsn.Lsn.{Lsn}
use Rattle.lsn_core.specs.declared.lsn.Place.{Place}
use Rattle.lsn_core.specs.declared.fault.MarkFault.{MarkFault}
use Rattle.lsn_core.specs.declared.fault.MarkFault.TheVariants as fault
use Rattle.page_pool.specs.declared.turn.Cleaned.{Cleaned}
use Rattle.store_locks.specs.Calls.{IsMarkOf, HasNoRoom, MayWriteWal}
use Rattle.lsn_core.specs.Causes.{Rose}
use Rattle.lsn_core.specs.Files.{Files}
use Rattle.lsn_core.specs.Store.{Store, files_of}
use Rattle.lsn_core.specs.declared.fault.AreaFault.{AreaFault}
use Rattle.lsn_core.specs.declared.fault.AreaFault.TheVariants as area
use Rattle.lsn_core.specs.declared.fault.StoreArea.{StoreArea}
use Rattle.lsn_core.specs.declared.fault.StoreArea.TheVariants.{Wal, Data}
use Rattle.lsn_core.specs.declared.fault.StoreFault.{StoreFault}
use Rattle.lsn_core.specs.declared.fault.StoreFault.TheVariants as store
use Rattle.vault.specs.Stops.{Event}
use Rattle.vault.specs.Frame.{IsDurable}
use Rattle.vault.specs.declared.area.Vault.{Ghosts}
use Rattle.wal_record.specs.declared.record.Kind.{Kind}
use Rattle.wal_record.specs.declared.record.Record.{Record}
use Rattle.wal_reader.specs.declared.fault.WalFault.{WalFault}
use Rattle.wal_reader.specs.declared.fault.WalFault.TheVariants as wal
use Rattle.history.specs.declared.op.Op.{Op}
use Rattle.history.specs.declared.op.Op.TheVariants as op
use Rattle.history.specs.declared.op.Item.{Item}
use Rattle.history.specs.Entry.{Act, Marking, Entry, is_of_run}
use Rattle.history.specs.Apply.{apply_all}
use Rattle.history.specs.Op.{act_of_op}
use Rattle.history.specs.Written.{kind_of, tip_of}
use Rattle.history.specs.partitions.Parts.{partition_of}
use Rattle.wal_writer.specs.Log.{Log, IsLog}
use Rattle.wal_writer.specs.declared.state.Flushed.{Flushed}
use Rattle.journal.specs.Journal.{Written, EndsWith, IsAtRest}
use Rattle.page_pool.specs.Part.{Part}
use Rattle.page_pool.specs.Facts.{history_end}
use Rattle.command_judging.specs.Refusals.{judged_op}
use Rattle.store_faults.specs.declared.insert_fault.InsertFault.{InsertFault}
use Rattle.store_faults.specs.declared.insert_fault.InsertFault.TheVariants as insert
use Rattle.store_locks.specs.Refusals.{most_pages, judged_form, judged_total}

-- ---- faults

-- the fault of an area
abbrev pub fault_of : StoreArea → AreaFault → StoreFault
fault_of which area.Failed = store.Failed which
fault_of which area.NoMemory = store.NoMemory

-- this area failed, and only where its count rose
abbrev pub AreaCause : StoreArea → ℕ → ℕ → StoreFault → Type 0
AreaCause which before now (store.Failed other) = (other ≡ which) × Rose before now
AreaCause which before now store.NoMemory = Unit {0}

-- the refusal of a command for the fault that a call on an area had
abbrev pub insert_fault : StoreFault → InsertFault
insert_fault (store.Failed which) = insert.Failed which
insert_fault store.NoMemory = insert.NoMemory

-- a refusal that is for no area
abbrev pub NamesNoArea : InsertFault → Type 0
NamesNoArea (insert.Failed which) = ⊥
NamesNoArea why = Unit {0}

-- ---- commands

-- the partition of the first item's relation
abbrev pub IsOfFirst : ℕ → List Item → Type 0
IsOfFirst q [] = Unit {0}
IsOfFirst q (item ∷ items) = q ≡ partition_of item.at.fork.rel

-- so many pages, with so many more and so many less, as far as a number goes
abbrev pub pages_behind : ℕ → ℕ → ℕ → ℕ
pages_behind pages added gone = min (pages + added - gone) (2 ^ 64 - 1)

-- a change leaves too many pages
abbrev pub is_change : Op → Bool
is_change (op.Create fork) = false
is_change (op.Truncate rel count) = false
is_change (op.Change items) = true
is_change (op.Drop rel) = false

abbrev pub is_over : Op → ℕ → Bool
is_over command pages = is_change command && nat_lt most_pages pages

-- nothing but want of room in the WAL refuses a command behind a history, which is written as this
-- kind
pub record IsAdmitted (log : Log) (history : List Entry) (command : Op) (kind : Kind) : Type 0 where
  pub store : Store
  pub state : apply_all empty history ≡ Some store
  pub tip : log.tip ≡ tip_of log.mib history
  pub form : judged_form command ≡ None
  pub taken : judged_op store command ≡ None
  pub total : judged_total log.tip.count store command ≡ None
  pub kind_is : kind ≡ kind_of store log.tip.redo (act_of_op command)

-- the entry of a command comes behind a history
pub record IsNextOf (command : Op) (old new : List Entry) : Type 0 where
  pub entry : Entry
  pub grown : new ≡ old ++ (entry ∷ [])
  pub act : entry.act ≡ act_of_op command
  pub own : is_of_run entry ≡ true
  pub late : history_end old ≤ entry.end

-- ---- the WAL

-- where the WAL of a history ends, behind the last entry
abbrev pub end_of : ℕ → List Entry → ℕ
end_of mib history = (tip_of mib history).end

abbrev pub written_end : {V : Type 0} → Written V → ℕ
written_end journal = (tip_of journal.wal.tail.mib journal.pen).end

-- history and pages stay, and so does what is known of the WAL's area; nothing that was flushed is
-- lost, and of the archive only what wasn't flushed may have been written
pub record KeepsWal {V : Type 0} (g : Ghosts V) (old new : Written V) : Type 0 where
  pub pen : new.pen ≡ old.pen
  pub pages : new.pages ≡ old.pages
  pub segment : new.wal.tail.mib ≡ old.wal.tail.mib
  pub system : new.wal.tail.system ≡ old.wal.tail.system
  pub flushed : old.wal.tail.flushed ≤ new.wal.tail.flushed
  pub within : new.wal.tail.flushed ≤ written_end old
  pub files : MayWriteWal old.wal.tail.mib old.wal.tail.flushed (written_end old)
      (g.files old.wal.area) (g.files new.wal.area)
  pub told : IsSome (g.files old.wal.area) → IsSome (g.files new.wal.area)
  pub faults : g.faults old.wal.area ≤ g.faults new.wal.area

-- entries were added, in memory alone
pub record AddsOnly {V : Type 0} (old new : Written V) : Type 0 where
  pub segment : new.wal.tail.mib ≡ old.wal.tail.mib
  pub system : new.wal.tail.system ≡ old.wal.tail.system
  pub flushed : new.wal.tail.flushed ≡ old.wal.tail.flushed
  pub area : new.wal.area ≡ old.wal.area
  pub history : IsPrefix old.pen new.pen
  pub top : written_end old ≤ written_end new
  pub within : old.wal.tail.flushed ≤ written_end old

-- ---- checkpoints

-- all of a partition was written, by a checkpoint of this redo point
abbrev pub IsCleaned : ℕ → Lsn → Cleaned → Type 0
IsCleaned q redo cleaned = (cleaned.part ≡ q) × (cleaned.redo ≡ redo)

-- all of each partition was written
abbrev pub AreCleaned : Lsn → List Cleaned → Type 0
AreCleaned redo done =
    (map (λ c. c.part) done ≡ 0 ∷ 1 ∷ 2 ∷ 3 ∷ []) × All (λ c. c.redo ≡ redo) done

-- the entry of a mark by a worker comes behind a history, at a place
pub record HasMark (worker : ℕ) (marking : Marking) (old new : List Entry) (place : Place)
    : Type 0 where
  pub entry : Entry
  pub grown : new ≡ old ++ (entry ∷ [])
  pub is : IsMarkOf worker marking entry
  pub start : place.start.0 ≡ entry.start
  pub end : place.end.0 ≡ entry.end
  pub long : entry.start < entry.end
  pub late : history_end old ≤ entry.end

-- a mark finds no room behind so many entries; want of memory may come at any time
abbrev pub IsFullFor : Act → ℕ → List Entry → MarkFault → Type 0
IsFullFor act mib history (fault.Failed which) = ⊥
IsFullFor act mib history (fault.WalFull n) = (n ≡ length history) × HasNoRoom mib history act
IsFullFor act mib history fault.NoMemory = Unit {0}

-- the fault of a mark that a call on an area had
abbrev pub mark_fault : StoreFault → MarkFault
mark_fault (store.Failed which) = fault.Failed which
mark_fault store.NoMemory = fault.NoMemory

-- ---- records

-- what is answered of a reading: damage is taken as the end
abbrev pub EndsAtDamage : Result (Vec Record) WalFault → Result (Vec Record) StoreFault → Type 0
EndsAtDamage (Ok v) result = result ≡ Ok v
EndsAtDamage (Err wal.Failed) result = result ≡ Err (store.Failed Wal)
EndsAtDamage (Err wal.NoMemory) result = result ≡ Err store.NoMemory
EndsAtDamage (Err fault) result = IsOk result × IfOk result (λ v. v.items ≡ [])
