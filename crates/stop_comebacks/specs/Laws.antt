-- Laws that join what a stop leaves of an open store to its restart.
use Rattle.std.specs.Prelude.{◌≡◌, ℕ, ◌<◌, ◌≤◌, List, [], ◌∷◌, ◌++◌, Option, Some, IsSome, IfSome}
use Rattle.std.specs.FinMap.{empty}
use Rattle.lsn_core.specs.Files.{Files}
use Rattle.lsn_core.specs.Segment.{StoreSettings}
use Rattle.lsn_core.specs.Store.{Store}
use Rattle.lsn_core.specs.Tip.{Tip}
use Rattle.lsn_core.specs.declared.lsn.Lsn.{Lsn}
use Rattle.vault.specs.Frame.{LeavesNow, LeavesOnly}
use Rattle.vault.specs.Stops.{Event}
use Rattle.vault.specs.declared.area.Vault.{Ghosts}
use Rattle.wal_record.specs.Decoding.{record_at}
use Rattle.wal_record.specs.declared.record.Kind.TheVariants.{Shutdown}
use Rattle.wal_record.specs.declared.record.Record.{Record}
use Rattle.wal_archive.specs.Archive.{archive_of}
use Rattle.wal_writer.specs.Log.{Log, IsLog}
use Rattle.wal_writer.specs.Laws.{IsKnown, Waits}
use Rattle.wal_writer.specs.Stops.{Holds, HasRest}
use Rattle.survivor_laws.specs.Survivors.{NoneByChance}
use Rattle.history.specs.Entry.{Entry}
use Rattle.history.specs.Apply.{apply_all}
use Rattle.history.specs.Written.{wal_of}
use Rattle.history.specs.fuzzy_copies.Logged.{history_of, log_of, AreLogged}
use Rattle.history.specs.fuzzy_copies.Covers.{AreTidy}
use Rattle.history.specs.fuzzy_copies.Orderly.{IsOrderly}
use Rattle.history.specs.fuzzy_copies.Sound.{entries_before, state_before}
use Rattle.stop_areas.specs.Left.{IsLeftOf}
use Rattle.page_frames.specs.Framed.{AreFramed}
use Rattle.page_pool.specs.Part.{Part}
use Rattle.page_pool.specs.Calls.{AreWholePages, HoldsFrames, IsHeld}
use Rattle.page_pool.specs.Facts.{Follows}
use Rattle.page_pool.specs.Stops.{KeepsWindow}
use Rattle.stop_laws.specs.Window.{ArePartedBy, IsWindow, IsFramed, window_base}
use Rattle.stop_laws.specs.Laws.{KeepsBase}
use Rattle.data_areas.specs.Areas.{area_of}
use Rattle.store_areas.specs.declared.areas.StoreAreas.{StoreAreas}
use Rattle.store_areas.specs.Begin.{data_of}
use Rattle.store_restart.specs.declared.restarting.Restarted.{Restarted}
use Rattle.store_restart.specs.Restarted.{IsBackFrom}
use Rattle.comeback_laws.specs.Laws.{AreSettings}
use Rattle.comeback_laws.specs.Restorable.{DeltasFollowRedo, AreRestorableAreas, IsWholeBack}
use Rattle.stop_comebacks.specs.Deltas.{BeginAtRedoPlaces, NameOwnPlaces}
use Rattle.stop_comebacks.specs.Open.{IsOpen, IsLeftBehind}
use Rattle.stop_comebacks.specs.Stopped.{AreWritten, StoresFit, IsStoreHistory, IsPastRedo, HasOwnFiles, IsWalLeft, IsPartLeft, AreStopped}

-- files that have what stays of the store at a place have what stays of it at each earlier one,
-- from which on the entries are tidy, whatever entries come more
abbrev pub EarlierPlacesAreLeft : Type 0
EarlierPlacesAreLeft =
    (relseg q from place : ℕ) (known more : List Entry) (base store : Store) (files : Files)
    → IsOrderly 0 (known ++ more) → AreTidy empty known → from ≤ place
    → entries_before more place ≡ []
    → state_before (known ++ more) from ≡ Some base → state_before known place ≡ Some store
    → IsLeftOf relseg (window_base q place known store) files
    → IsLeftOf relseg (window_base q from (known ++ more) base) files

-- ---- a partition's own files

-- a partition that follows a history, with its pages in frames, whose area tells files that hold
-- what is written
pub record IsOwnPart (q : ℕ) (history : List Entry) (part : Part) : Type 0 where
  pub follows : Follows q history part
  pub framed : IsFramed part
  pub bounds : AreFramed part.framed
  pub told : IsSome part.disk
  pub held : IsHeld part

-- a stop at each moment of a call that keeps windows leaves own files, where it did before
abbrev pub CallsKeepOwnFiles : Type 0
CallsKeepOwnFiles =
    (q flushed : ℕ) (history : List Entry) (old new : Part) → 0 < old.relseg
    → IsOwnPart q history old → KeepsWindow flushed old new
    → LeavesNow (HasOwnFiles old.relseg q) old.past
    → LeavesOnly (HasOwnFiles old.relseg q) old.past new.past

-- and so does one where a partition's files hold its pages, durably
abbrev pub CleanPartitionsHaveOwnFiles : Type 0
CleanPartitionsHaveOwnFiles =
    (q : ℕ) (history : List Entry) (now : Store) (part : Part)
    → 0 < part.relseg → apply_all empty history ≡ Some now → Follows q history part
    → IsSome part.disk → AreWholePages part.frames → HoldsFrames part
    → IfSome part.disk (λ files. LeavesNow (λ left. left ≡ files) part.past)
    → LeavesNow (HasOwnFiles part.relseg q) part.past

-- ---- by the records of the log

-- a partition that follows a history of found and own entries leaves, of its area, what the records
-- of the log let it leave
abbrev pub StopsLeaveParts : Type 0
StopsLeaveParts =
    (mib q flushed : ℕ) (found : List Record) (own known later : List Entry)
    (store mid now : Store) (part : Part)
    → IsOrderly 0 (history_of found own) → AreLogged mib found own
    → history_of found own ≡ known ++ later → ArePartedBy flushed known later
    → IsWindow part.point known later store mid now
    → IsPastRedo (log_of mib found own) part.point
    → KeepsBase q part.point known store part
    → LeavesNow (HasOwnFiles part.relseg q) part.past
    → LeavesNow (IsPartLeft part.relseg q (log_of mib found own) flushed) part.past

-- and a log that knows the records up to its flushed place, and of the others that they wait,
-- leaves such a WAL wherever the archive stands up to that place, and from the log's end on
abbrev pub StopsLeaveWals : Type 0
StopsLeaveWals =
    (log : Log) (files left : Files) (stable waiting : List Record) (tip : Tip)
    → IsLog log → IsKnown record_at log files stable tip → Waits record_at log tip waiting
    → Holds log.mib (archive_of log.mib files) log.flushed left
    → HasRest log.mib (archive_of log.mib files) log.tip.end left
    → NoneByChance record_at log.mib log.system (archive_of log.mib left) tip waiting
    → IsWalLeft log.mib log.system (stable ++ waiting) log.flushed left

-- ---- a stopped store

-- records that can be written make stores that have files
abbrev pub WrittenRecordsFit : Type 0
WrittenRecordsFit = (history : List Record) → AreWritten history → StoresFit history

-- what a stop leaves of an open store are the areas of a stopped one
abbrev pub OpenStoresAreStopped : {V : Type 0} → Ghosts V → Type 0
OpenStoresAreStopped {V} g =
    (s : StoreSettings) (found : List Record) (own : List Entry) (log : Log)
    (past : Option (List Event)) (part : ℕ → Part) (areas : StoreAreas V) (wal : Files)
    → (is : IsOpen s found own log past part)
    → g.files areas.wal ≡ Some wal → IsLeftBehind past wal
    → NoneByChance record_at log.mib log.system (archive_of log.mib wal) is.wal.tip is.wal.waiting
    → ((q : ℕ) → q < 4 → (m : Files) × ((g.files (area_of (data_of areas) q) ≡ Some m)
    × IsLeftBehind (part q).past m))
    → AreStopped g s (log_of log.mib found own) log.flushed areas

-- from such areas a store can be brought back
abbrev pub StopsLeaveRestorableAreas : {V : Type 0} → Ghosts V → Type 0
StopsLeaveRestorableAreas {V} g =
    (s : StoreSettings) (history : List Record) (flushed : ℕ) (areas : StoreAreas V)
    → AreSettings s → IsStoreHistory history → AreStopped g s history flushed areas
    → AreRestorableAreas g s history flushed areas

-- ---- the image rule

-- of the log of a new store, which is a checkpoint alone, each delta follows an image or a cut of
-- its block from where replay starts on: it has none
abbrev pub NewLogsFollow : Type 0
NewLogsFollow = (redo : Lsn) (r : Record) → r.kind ≡ Shutdown redo → DeltasFollowRedo (r ∷ [])

-- so it is of the first of some records where it is of all, as a stop and a restart leave them
abbrev pub FirstRecordsFollow : Type 0
FirstRecordsFollow =
    (first rest : List Record) → DeltasFollowRedo (first ++ rest) → DeltasFollowRedo first

-- and so it is of the log behind a run where it was of the records that the run found, where the
-- run's checkpoints name their own redo marks
abbrev pub RunsKeepDeltasFollowing : Type 0
RunsKeepDeltasFollowing =
    (mib : ℕ) (found : List Record) (own : List Entry) (now : Store)
    → IsOrderly 0 (history_of found own) → AreLogged mib found own
    → apply_all empty (history_of found own) ≡ Some now
    → BeginAtRedoPlaces (log_of mib found own)
    → NameOwnPlaces found (wal_of mib (history_of found own))
    → DeltasFollowRedo found → DeltasFollowRedo (log_of mib found own)

-- ---- what comes of it

-- so a store that was stopped and restarted is whole
abbrev pub StoppedStoresComeBack : {V : Type 0} → Ghosts V → Type 0
StoppedStoresComeBack {V} g =
    (s : StoreSettings) (history : List Record) (flushed : ℕ) (old : StoreAreas V)
    (back : Restarted V)
    → AreSettings s → IsStoreHistory history → DeltasFollowRedo history
    → AreStopped g s history flushed old → IsBackFrom g s old back
    → IsWholeBack g s history flushed back
