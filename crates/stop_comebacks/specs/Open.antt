-- An open store as plain data: the history that it found and wrote, its WAL's log, and its
-- partitions.
use Rattle.std.specs.Prelude.{◌≡◌, ℕ, ◌<◌, List, ◌++◌, Option, Some}
use Rattle.lsn_core.specs.Files.{Files}
use Rattle.lsn_core.specs.Segment.{StoreSettings}
use Rattle.lsn_core.specs.Store.{Store}
use Rattle.lsn_core.specs.Tip.{Tip}
use Rattle.vault.specs.Frame.{LeavesNow}
use Rattle.vault.specs.Stops.{Event, MayLeave}
use Rattle.wal_record.specs.Decoding.{record_at}
use Rattle.wal_record.specs.declared.record.Record.{Record}
use Rattle.wal_archive.specs.Archive.{archive_of}
use Rattle.wal_writer.specs.Log.{Log, IsLog}
use Rattle.wal_writer.specs.Laws.{IsKnown, Waits}
use Rattle.wal_writer.specs.Stops.{Holds, HasRest}
use Rattle.history.specs.Entry.{Entry}
use Rattle.history.specs.fuzzy_copies.Logged.{history_of, log_of, AreLogged}
use Rattle.history.specs.fuzzy_copies.Orderly.{IsOrderly}
use Rattle.page_pool.specs.Part.{Part}
use Rattle.stop_laws.specs.Window.{ArePartedBy, IsWindow}
use Rattle.stop_laws.specs.Laws.{KeepsBase}
use Rattle.stop_comebacks.specs.Stopped.{HasOwnFiles, IsPastRedo}

-- a log of some records: the first are in its area's archive, and the others wait to be flushed. A
-- stop leaves of the archive what was flushed, and from the log's end on what was there before
pub record IsOpenLog (records : List Record) (log : Log) (past : Option (List Event))
    : Type 0 where
  pub is_log : IsLog log
  pub files : Files
  pub stable : List Record
  pub waiting : List Record
  pub tip : Tip
  pub parts : records ≡ stable ++ waiting
  pub known : IsKnown record_at log files stable tip
  pub waits : Waits record_at log tip waiting
  pub holds : LeavesNow (Holds log.mib (archive_of log.mib files) log.flushed) past
  pub rest : LeavesNow (HasRest log.mib (archive_of log.mib files) log.tip.end) past

-- a partition of a store, whose WAL is flushed up to a place: a stop leaves own files, which have
-- what the store had at the partition's point, unless a flushed entry from there on changes it. The
-- point is past each checkpoint's redo point
pub record IsOpenPart (mib relseg q : ℕ) (found : List Record) (own : List Entry) (flushed : ℕ)
    (part : Part) : Type 0 where
  pub known : List Entry
  pub later : List Entry
  pub parts : history_of found own ≡ known ++ later
  pub parted : ArePartedBy flushed known later
  pub store : Store
  pub mid : Store
  pub now : Store
  pub window : IsWindow part.point known later store mid now
  pub past_redo : IsPastRedo (log_of mib found own) part.point
  pub keeps : KeepsBase q part.point known store part
  pub own_files : LeavesNow (HasOwnFiles part.relseg q) part.past
  pub relseg_is : part.relseg ≡ relseg

-- a store with such a log and four such partitions
pub record IsOpen (s : StoreSettings) (found : List Record) (own : List Entry) (log : Log)
    (past : Option (List Event)) (part : ℕ → Part) : Type 0 where
  pub orderly : IsOrderly 0 (history_of found own)
  pub logged : AreLogged log.mib found own
  pub mib_is : log.mib ≡ s.segment
  pub system_is : log.system ≡ s.system
  pub wal : IsOpenLog (log_of log.mib found own) log past
  pub parts : (q : ℕ) → q < 4
      → IsOpenPart log.mib s.relseg q found own log.flushed (part q)

-- a stop left these files of an area to which this happened
pub record IsLeftBehind (past : Option (List Event)) (files : Files) : Type 0 where
  pub events : List Event
  pub told : past ≡ Some events
  pub may : MayLeave events files
