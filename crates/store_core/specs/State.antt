-- What the machine holds.
use Rattle.std.specs.Prelude.{ℕ, ◌==◌, List, [], ◌∷◌, ◌++◌, Option, None, if◌then◌else◌}
use Rattle.std.specs.FinMap.{empty}
use Rattle.lsn_core.specs.Segment.{segment_bytes}
use Rattle.lsn_core.specs.Store.{Store}
use Rattle.lsn_core.specs.Tip.{Tip}
use Rattle.lsn_core.specs.declared.ids.BlockId.{BlockId}
use Rattle.wal_pages.specs.Places.{start_after}
use Rattle.wal_record.specs.declared.record.Record.{Record}
use Rattle.wal_record.specs.declared.record.Kind.TheVariants as kind
use Rattle.wal_record.specs.Tips.{first_tip, record_at_tip}
use Rattle.history.specs.Entry.{Entry}
use Rattle.history.specs.Whole.{entry_of}
use Rattle.history.specs.Written.{tip_of, wal_of}
use Rattle.history.specs.fuzzy_copies.Summary.{BlockRefTable}
use Rattle.store_core.specs.declared.step.Work.{Work}

-- a partition: its pages in frames, as they are now; its disk; the dirty blocks, whose pages aren't
-- written to the disk yet, in order and each once; the works that are to be done before them, in
-- turn; and the place from which on replay makes good what isn't written
pub record Part : Type 0 where
  pub frames : Store
  pub disk : Store
  pub dirty : List BlockId
  pub works : List Work
  pub point : ℕ

-- a published summary: of the range from a place to another, and what it says
pub record Published : Type 0 where
  pub start : ℕ
  pub end : ℕ
  pub table : BlockRefTable

-- what an incremental backup is made over: a finished one, which starts there and has this copy
pub record Prior : Type 0 where
  pub start : ℕ
  pub copy : Store

-- a backup under way: its start, which is its checkpoint's redo point; the partitions that are
-- listed; the copy so far, with the listed forks and lengths, and zeros where a block isn't copied
-- yet; the blocks that are copied; and, of an incremental one, the backup that it is made over
pub record Backup : Type 0 where
  pub start : ℕ
  pub listed : List ℕ
  pub copy : Store
  pub copied : List BlockId
  pub prior : Option Prior

-- a worker: its redo point, where the checkpoint's end isn't written yet, and its backup under way
pub record Worker : Type 0 where
  pub redo : Option ℕ
  pub backup : Option Backup

-- what an incremental backup tells besides its copy: the start of the backup that it is made over,
-- and the blocks that it has; it has the others from that backup
pub record Increment : Type 0 where
  pub prior : ℕ
  pub sent : List BlockId

-- a finished backup: its copy, where it starts and where it ends. The copy of an incremental one
-- has zeros where a block isn't sent, and each fork as long as its files are rebuilt
pub record Finished : Type 0 where
  pub copy : Store
  pub start : ℕ
  pub end : ℕ
  pub increment : Option Increment

-- the machine: its segment size in MiB, how many blocks stand in a file of a fork, the history, the
-- published summaries, the four partitions by their numbers, the workers by theirs, and the
-- finished backups, in order
pub record State : Type 0 where
  pub mib : ℕ
  pub relseg : ℕ
  pub history : List Entry
  pub published : List Published
  pub parts : ℕ → Part
  pub workers : ℕ → Worker
  pub finished : List Finished

-- the numbers of the partitions
abbrev pub part_numbers : List ℕ
part_numbers = 0 ∷ 1 ∷ 2 ∷ 3 ∷ []

-- the first entry of a new store: a checkpoint of a store that was shut down, its own redo point
abbrev pub first_record : ℕ → Record
first_record mib =
    record_at_tip mib (first_tip mib)
    (kind.Shutdown (record { 0 = start_after mib (segment_bytes mib) }))

-- a partition without pages, behind that entry
abbrev pub empty_part : ℕ → Part
empty_part point =
    record { frames = empty; disk = empty; dirty = []; works = []; point = point }

abbrev pub idle_worker : Worker
idle_worker = record { redo = None; backup = None }

-- the machine of a new store
abbrev pub first_state : ℕ → ℕ → State
first_state mib relseg = record {
  mib = mib;
  relseg = relseg;
  history = entry_of (first_record mib) ∷ [];
  published = [];
  parts = λ q. empty_part (first_record mib).end.0;
  workers = λ worker. idle_worker;
  finished = [];
}

-- where its WAL ends
abbrev pub end_of_wal : State → Tip
end_of_wal s = tip_of s.mib s.history

-- its WAL: the records of its entries, of which the first one was there before the others
abbrev pub records_of : State → List Record
records_of s = first_record s.mib ∷ wal_of s.mib s.history

-- the machine with one entry more; with another partition, worker, published summary, or finished
-- backup
abbrev pub with_entry : State → Entry → State
with_entry s entry = record {
  mib = s.mib;
  relseg = s.relseg;
  history = s.history ++ (entry ∷ []);
  published = s.published;
  parts = s.parts;
  workers = s.workers;
  finished = s.finished;
}

abbrev pub with_part : State → ℕ → Part → State
with_part s q part = record {
  mib = s.mib;
  relseg = s.relseg;
  history = s.history;
  published = s.published;
  parts = λ other. if other == q then part else s.parts other;
  workers = s.workers;
  finished = s.finished;
}

abbrev pub with_worker : State → ℕ → Worker → State
with_worker s number worker = record {
  mib = s.mib;
  relseg = s.relseg;
  history = s.history;
  published = s.published;
  parts = s.parts;
  workers = λ other. if other == number then worker else s.workers other;
  finished = s.finished;
}

abbrev pub with_finished : State → Finished → State
with_finished s backup = record {
  mib = s.mib;
  relseg = s.relseg;
  history = s.history;
  published = s.published;
  parts = s.parts;
  workers = s.workers;
  finished = s.finished ++ (backup ∷ []);
}

abbrev pub with_published : State → Published → State
with_published s summary = record {
  mib = s.mib;
  relseg = s.relseg;
  history = s.history;
  published = s.published ++ (summary ∷ []);
  parts = s.parts;
  workers = s.workers;
  finished = s.finished;
}
