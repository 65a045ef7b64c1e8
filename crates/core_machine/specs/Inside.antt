-- What the crate's private functions do: no public contract cites these.
use Rattle.std.specs.Prelude.{◌≡◌, ℕ, ◌+◌, ◌==◌, ◌<◌, ◌≤◌, if◌then◌else◌, List, [], ◌∷◌, ◌++◌, map, length, Option, None, Some, Result, Ok, Err, slice_get}
use Rattle.std.specs.Option.{option_map}
use Rattle.lsn_core.specs.declared.ids.ForkId.{ForkId}
use Rattle.lsn_core.specs.Store.{Store}
use Rattle.history.specs.declared.op.Op.{Op}
use Rattle.history.specs.declared.op.Op.TheVariants as op
use Rattle.history.specs.Apply.{main_fork, without_rel}
use Rattle.history.specs.Op.{act_of_op}
use Rattle.lsn_core.specs.Blocks.{pages_of, with_fork, with_cut, without_fork}
use Rattle.wal_record.specs.declared.record.Kind.{Kind}
use Rattle.wal_record.specs.Tips.{wal_limit, record_at_tip, tip_after}
use Rattle.store_core.specs.declared.reply.Wrote.{Wrote}
use Rattle.lsn_core.specs.declared.ids.ForkLen.{ForkLen}
use Rattle.core_machine.specs.declared.backup.Underway.{Underway}
use Rattle.core_machine.specs.declared.crew.Crewman.{Crewman}
use Rattle.core_machine.specs.declared.machine.Machine.{Machine}
use Rattle.lsn_core.specs.declared.lsn.Place.{Place}
use Rattle.core_machine.specs.declared.pool.Pool.{Pool}
use Rattle.wal_record.specs.Spelling.{IsWritable}
use Rattle.history.specs.Written.{kind_of}
use Rattle.store_core.specs.declared.reply.Refusal.{Refusal}
use Rattle.store_core.specs.Refusals.{judged_edits, judged_op}
use Rattle.store_core.specs.declared.increment.PriorBackup.{PriorBackup}
use Rattle.store_core.specs.State.{Part, Prior, Backup, Worker, idle_worker}
use Rattle.store_core.specs.Parts.{dirty_after, works_after, with_removal, next_write}
use Rattle.store_core.specs.InMemory.{done_items, uncut}

-- a partition, as the machine's definitions see it
abbrev pub part_in : Pool → Part
part_in p = record {
  frames = p.frames;
  disk = p.disk;
  dirty = p.dirty.items;
  works = p.works.items;
  point = p.point.0;
}

-- what was written of a partition, which had something dirty or pending; else it is as before
abbrev pub HasTurned : Part → Part → Option Wrote → Type 0
HasTurned old new None = (next_write old old.works old.dirty ≡ None) × (new ≡ old)
HasTurned old new (Some wrote) =
    next_write old old.works old.dirty ≡ Some (record { part = new; wrote = wrote })

-- a command done on pages, by an entry that ends at a place
abbrev pub done_op : ℕ → Store → Op → Store
done_op end store (op.Create fork) = with_fork store fork
done_op end store (op.Truncate rel count) = with_cut store (main_fork rel) count
done_op end store (op.Change items) = done_items end store items
done_op end store (op.Drop rel) = without_rel store rel

-- no fragment of a command is bad
abbrev pub HasGoodEdits : Op → Type 0
HasGoodEdits (op.Create fork) = Unit {0}
HasGoodEdits (op.Truncate rel count) = Unit {0}
HasGoodEdits (op.Change items) = judged_edits 0 items ≡ None
HasGoodEdits (op.Drop rel) = Unit {0}

-- a partition behind a command
abbrev pub part_behind : ℕ → Op → Part → Part
part_behind end command part = record {
  frames = done_op end part.frames command;
  disk = part.disk;
  dirty = dirty_after part.dirty (act_of_op command);
  works = works_after part.frames part.works (act_of_op command);
  point = part.point;
}

-- a partition without a fork in its frames: nothing of the fork is dirty, and its removal is
-- entered where it was there
abbrev pub part_without : ForkId → Part → Part
part_without fork part = record {
  frames = without_fork part.frames fork;
  disk = part.disk;
  dirty = uncut fork 0 part.dirty;
  works = with_removal part.frames part.works fork;
  point = part.point;
}

-- a backup that an incremental one is made over, as the machine's definitions see it
abbrev pub prior_in : PriorBackup → Prior
prior_in b = record { start = b.start.0; copy = b.copy }

-- a backup under way, as the machine's definitions see it
abbrev pub underway_in : Underway → Backup
underway_in b = record {
  start = b.start.0;
  listed = b.listed.items;
  copy = b.copy;
  copied = b.copied.items;
  prior = option_map prior_in b.prior;
}

-- forks of a disk with their lengths
abbrev pub lengths_in : Store → List ForkId → List ForkLen
lengths_in disk forks =
    map (λ fork. record { fork = fork; blocks = length (pages_of disk fork) }) forks

-- a worker, as the machine's definitions see it; one that isn't there did nothing yet
abbrev pub worker_in : Option Crewman → Worker
worker_in None = idle_worker
worker_in (Some man) = record {
  redo = option_map (λ l. l.0) man.redo;
  backup = option_map underway_in man.backup;
}

abbrev pub worker_at : List Crewman → ℕ → Worker
worker_at crew number = worker_in (slice_get crew number)

-- how many of its commands were accepted
abbrev pub commands_in : Option Crewman → ℕ
commands_in None = 0
commands_in (Some man) = man.commands

abbrev pub commands_at : List Crewman → ℕ → ℕ
commands_at crew number = commands_in (slice_get crew number)

-- the same workers, among whom this one is
pub record HasReached (old new : List Crewman) (number : ℕ) : Type 0 where
  pub there : number < length new
  pub workers : (w : ℕ) → worker_at new w ≡ worker_at old w
  pub commands : (w : ℕ) → commands_at new w ≡ commands_at old w

-- workers with another one at a number
pub record IsCrewWith (old new : List Crewman) (number : ℕ) (worker : Worker) : Type 0 where
  pub workers : (w : ℕ)
      → worker_at new w ≡ (if w == number then worker else worker_at old w)
  pub commands : (w : ℕ) → commands_at new w ≡ commands_at old w

-- workers of which one has no backup any more
abbrev pub IsCrewTaken : List Crewman → List Crewman → ℕ → Type 0
IsCrewTaken old new number =
    IsCrewWith old new number (record { redo = (worker_at old number).redo; backup = None })

-- workers of which one had a command accepted
pub record IsCrewCounted (old new : List Crewman) (number : ℕ) : Type 0 where
  pub workers : (w : ℕ) → worker_at new w ≡ worker_at old w
  pub commands : (w : ℕ)
      → commands_at new w ≡ (if w == number then commands_at old w + 1 else commands_at old w)

-- a machine with the record of a kind behind its WAL, which has room for it, at a place
pub record HasAppended (old new : Machine) (kind : Kind) (place : Place) : Type 0 where
  pub start : place.start ≡ (record_at_tip old.settings.segment old.tip kind).start
  pub end : place.end ≡ (record_at_tip old.settings.segment old.tip kind).end
  pub room : (record_at_tip old.settings.segment old.tip kind).end.0
      ≤ wal_limit old.settings.segment
  pub records : new.records.items
      ≡ old.records.items ++ (record_at_tip old.settings.segment old.tip kind ∷ [])
  pub tip : new.tip ≡ tip_after old.tip (record_at_tip old.settings.segment old.tip kind)
  pub settings : new.settings ≡ old.settings
  pub summaries : new.summaries ≡ old.summaries
  pub summed : new.summed ≡ old.summed
  pub parts : new.parts ≡ old.parts
  pub crew : new.crew ≡ old.crew
  pub finished : new.finished ≡ old.finished

-- or, where there is no room, as before
abbrev pub MayHaveAppended : Machine → Machine → Kind → Option Place → Type 0
MayHaveAppended old new kind None =
    (wal_limit old.settings.segment < (record_at_tip old.settings.segment old.tip kind).end.0)
    × (new ≡ old)
MayHaveAppended old new kind (Some place) = HasAppended old new kind place

-- a command that nothing refuses by these pages, behind so many entries and a redo point, is
-- written as this kind
pub record IsToBeWritten (entries redo : ℕ) (frames : Store) (command : Op) (kind : Kind)
    : Type 0 where
  pub taken : judged_op entries frames command ≡ None
  pub kind_is : kind ≡ kind_of frames redo (act_of_op command)
  pub writable : IsWritable kind

abbrev pub IsWeighed : ℕ → ℕ → Store → Op → Result Kind Refusal → Type 0
IsWeighed entries redo frames command (Ok kind) =
    IsToBeWritten entries redo frames command kind
IsWeighed entries redo frames command (Err why) = judged_op entries frames command ≡ Some why
