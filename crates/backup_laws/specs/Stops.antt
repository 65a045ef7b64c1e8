-- Runs that were stopped from outside, and what later runs find behind them.
use Rattle.std.specs.Prelude.{◌≡◌, ◌⊎◌, ℕ, ◌<◌, ◌≤◌, true, List, [], ◌∷◌, ◌++◌, map, length, Option, Some, Ok, IfSome}
use Rattle.std.specs.List.{All, AllByRecursion}
use Rattle.std.specs.FinMap.{empty, get}
use Rattle.lsn_core.specs.Files.{Files}
use Rattle.lsn_core.specs.Segment.{StoreSettings}
use Rattle.lsn_core.specs.Tip.{Tip}
use Rattle.lsn_core.specs.declared.lsn.Lsn.{Lsn}
use Rattle.vault.specs.Area.{Related}
use Rattle.vault.specs.Frame.{AgreeBut}
use Rattle.vault.specs.Lending.{Names}
use Rattle.vault.specs.Site.{Areas}
use Rattle.wal_record.specs.declared.record.Record.{Record}
use Rattle.wal_reader.specs.Wal.{IsWal}
use Rattle.wal_writer.specs.Stops.{IsSegmentFile}
use Rattle.history.specs.Entry.{Entry}
use Rattle.history.specs.Whole.{entry_of}
use Rattle.history.specs.Written.{tip_of}
use Rattle.history.specs.fuzzy_copies.Covers.{AreTidy}
use Rattle.journal.specs.Lawful.{IsLawful}
use Rattle.recovery.specs.Causes.{HasSettings}
use Rattle.recovery.specs.Onward.{ending_by}
use Rattle.wal_summary.specs.declared.summary.Summary.{Summary}
use Rattle.summary_file.specs.File.{IsFileOf}
use Rattle.summary_file.specs.Name.{summary_name_bytes}
use Rattle.summary_store.specs.Honest.{IsHonestSummary}
use Rattle.store_locks.specs.Calls.{IsOfRun}
use Rattle.store_restart.specs.Survivors.{SurviveIn, has_start}
use Rattle.command_base.specs.Areas.{wal_name, sums_name, output_name}
use Rattle.command_base.specs.Outside.{Outside}
use Rattle.crew.specs.Run.{IsHonestFor}
use Rattle.run_command.specs.Run.{AreTold, HasFound, all_records, found_tip}
use Rattle.restart_command.specs.Restart.{RestartDoes}
use Rattle.command_line.specs.declared.options.InitOptions.{InitOptions}
use Rattle.store_commands.specs.Init.{InitDoes}
use Rattle.store_commands.specs.declared.replaying.ReplayReport.{ReplayReport}
use Rattle.chain_commands.specs.Chain.{backup_areas, files_told}
use Rattle.backup_laws.specs.Restores.{PastRun, HasRun, HasRestored, GoesOnFrom, IsWholeTo, replay_end, IsWholeReplay}
use Rattle.comeback_laws.specs.Restorable.{AreFirst}
use Rattle.backup_laws.specs.ChainRestores.{RanInTurn, FoundOwn, EndedWell, AreAsLeft, Making, IsCompletedBackup}

-- ---- what a run had come to

-- over areas that told their files a run had come to a lawful history when it was stopped: the
-- entries that it found, and behind them its own, of so many workers. The WAL was flushed up to a
-- place, at least to where it was found to end: a run syncs it before it reads it
pub record HadCome (before : Areas) : Type 0 where
  pub told : AreTold before
  pub settings : StoreSettings
  pub given : HasSettings (before wal_name).files settings
  pub found : List Record
  pub some : 0 < length found
  pub archive : IfSome (before wal_name).files (HasFound settings found)
  pub history : List Entry
  pub own : List Entry
  pub grown : history ≡ map entry_of found ++ own
  pub workers : ℕ
  pub of_run : All (IsOfRun workers) own
  pub lawful : IsLawful settings.segment history
  pub flushed : ℕ
  pub synced : (found_tip settings found).end ≤ flushed

-- the records of that history, and those of them that were flushed
abbrev pub come_records : {before : Areas} → HadCome before → List Record
come_records come = all_records come.settings come.found come.history

abbrev pub flushed_records : {before : Areas} → HadCome before → List Record
flushed_records come = ending_by come.flushed (come_records come)

-- ---- what a stop left

-- just such records are read of the files of a WAL, whatever stands behind them
pub record LeavesSurvivors
    (s : StoreSettings) (history : List Record) (flushed : ℕ) (files : Files)
    : Type 0 where
  pub records : List Record
  pub tip : Tip
  pub survive : SurviveIn s files records tip
  pub first : AreFirst history flushed records

-- each file of an area that is a summary's, under the name of its range, stood there before; or the
-- summary is honest for a history, and ends where one of these records starts
abbrev pub KeepsOrPublishes : List Entry → List Record → Files → Files → Type 0
KeepsOrPublishes history flushed old new =
    (name bytes : List ℕ) (sum : Summary) → get new name ≡ Some bytes
    → name ≡ summary_name_bytes sum.start.0 sum.end.0 → IsFileOf sum bytes
    → (get old name ≡ Some bytes)
    ⊎ (IsHonestSummary history sum × (has_start flushed sum.end.0 ≡ true))

-- a stop left of the WAL what survived, and changed only files of segments that the run may write.
-- A summary is made of entries that are read of the WAL, so of flushed ones, up to where the last
-- of these starts; and what is left of a file that was written in part is no summary's, unless its
-- sum matches by chance
pub record StopLeft (before stopped : Areas) (come : HadCome before) : Type 0 where
  pub wal : IfSome (stopped wal_name).files
      (LeavesSurvivors come.settings (come_records come) come.flushed)
  pub others : Related
      (AgreeBut (IsSegmentFile come.settings.segment (found_tip come.settings come.found).end
      (tip_of come.settings.segment come.history).end))
      (before wal_name).files (stopped wal_name).files
  pub sums : Related (KeepsOrPublishes come.history (flushed_records come))
      (before sums_name).files (stopped sums_name).files

-- ---- what came behind it

-- a run that was stopped from outside: what it found, what the stop left, and what the next run
-- finds
pub record PastStop : Type 0 where
  pub before : Outside
  pub stopped : Outside
  pub left : Outside

-- behind a stop came a restart that ended with status 0, or nothing that wrote the WAL or the
-- summaries
abbrev pub ComesBehind : Outside → Outside → Type 0
ComesBehind stopped left =
    ((report : ReplayReport) × RestartDoes stopped left (Ok report)) ⊎ AreAsLeft stopped left

-- the run was stopped so. Restarts behind it may have been stopped too: what they left is such as
-- the first stop may have left
pub record WasStopped (stop : PastStop) : Type 0 where
  pub come : HadCome stop.before.areas
  pub leaves : StopLeft stop.before.areas stop.stopped.areas come
  pub behind : ComesBehind stop.stopped stop.left

-- what the run had found is this program's own: its entries are tidy, and the area of summaries is
-- honest for them
pub record CameOnOwn (stop : PastStop) (was : WasStopped stop) : Type 0 where
  pub tidy : AreTidy empty (map entry_of was.come.found)
  pub honest : IsHonestFor (map entry_of was.come.found) (stop.before.areas sums_name)

-- ---- what is found behind it

-- a WAL is just the records that survived of a history
pub record HoldsSurvivors
    (s : StoreSettings) (history : List Record) (flushed : ℕ) (files : Files)
    : Type 0 where
  pub records : List Record
  pub tip : Tip
  pub is_wal : IsWal s files records tip
  pub first : AreFirst history flushed records

-- behind a restart the WAL is just the first records of the history that the run had come to, with
-- all that were flushed
abbrev pub RestartsHoldSurvivors : Type 0
RestartsHoldSurvivors =
    (stop : PastStop) (was : WasStopped stop) (report : ReplayReport)
    → RestartDoes stop.stopped stop.left (Ok report)
    → IfSome (stop.left.areas wal_name).files
    (HoldsSurvivors was.come.settings (come_records was.come) was.come.flushed)

-- and with one or without, the WAL goes on from what the run found
abbrev pub StopsGoOn : Type 0
StopsGoOn =
    (stop : PastStop) → WasStopped stop
    → Related GoesOnFrom (stop.before.areas wal_name).files (stop.left.areas wal_name).files

-- and what a run finds there is this program's own, where the stopped run had found so and nothing
-- else wrote the WAL and the summaries
abbrev pub StopsFindOwn : Type 0
StopsFindOwn =
    (stop : PastStop) (was : WasStopped stop) (next : PastRun)
    (on : HasRun next.before next.left next.report next.end)
    → AreAsLeft stop.left next.before → CameOnOwn stop was → FoundOwn next on

-- ---- runs and stops since `init`

-- what befell a store: a run that closed it, or one that was stopped from outside
pub data Turn : Type 0 where
  Closed : PastRun → Turn
  Stopped : PastStop → Turn

-- the runs among these, the latest first, that closed it
abbrev pub runs_closed : List Turn → List PastRun
runs_closed [] = []
runs_closed (Closed run ∷ turns) = run ∷ runs_closed turns
runs_closed (Stopped stop ∷ turns) = runs_closed turns

-- all that befell a store since it was made, the latest first, each over what the one before it
-- left: runs that ended well, and stops
abbrev pub BefellSince : Outside → List Turn → Outside → Type 0
BefellSince made [] now = AreAsLeft made now
BefellSince made (Closed run ∷ turns) now =
    EndedWell run × AreAsLeft run.left now × BefellSince made turns run.before
BefellSince made (Stopped stop ∷ turns) now =
    WasStopped stop × AreAsLeft stop.left now × BefellSince made turns stop.before

-- the runs that closed it are in turn then, and the WAL goes on from what the latest one left
abbrev pub RunsOverStopsAreInTurn : Type 0
RunsOverStopsAreInTurn =
    (options : InitOptions) (clear made now : Outside) (begin : Lsn) (turns : List Turn)
    (latest : PastRun) (earlier : List PastRun)
    → InitDoes options clear made (Ok begin) → BefellSince made turns now
    → runs_closed turns ≡ latest ∷ earlier
    → RanInTurn latest earlier
    × Related GoesOnFrom (latest.left.areas wal_name).files (now.areas wal_name).files

-- ---- the law

-- so chains of completed backups of these runs are restored to exactly what a replay of the whole
-- WAL gives, as they are where no run was stopped
abbrev pub CompletedChainsAreReplaysOverStops : Type 0
CompletedChainsAreReplaysOverStops =
    (options : InitOptions) (clear made now : Outside) (begin : Lsn) (turns : List Turn)
    (latest : PastRun) (earlier : List PastRun) (makings : List Making)
    (names : Names) (chain : List Files) (last old new : Outside) (end : Lsn)
    (out : List ℕ) (upto : Option Lsn) (report : ReplayReport)
    → InitDoes options clear made (Ok begin) → BefellSince made turns now
    → runs_closed turns ≡ latest ∷ earlier
    → Related GoesOnFrom (now.areas wal_name).files (last.areas wal_name).files
    → IfSome (last.areas wal_name).files (IsWholeTo end)
    → files_told (backup_areas names last.areas) ≡ Some chain
    → AllByRecursion (IsCompletedBackup (latest ∷ earlier) makings) chain
    → HasRestored last upto out names old new report
    → IsWholeReplay (last.areas wal_name).files end (replay_end upto end) report
    (new.areas (output_name out)).files
