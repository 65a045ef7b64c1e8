-- `run`: what running a script does, prints and ends with.
use Rattle.std.specs.Prelude.{◌≡◌, ℕ, ◌+◌, ◌<◌, ◌≤◌, List, [], ◌∷◌, ◌++◌, map, length, slice_get, Option, Some, None, Result, Ok, Err, IsSome, IfSome, codes}
use Rattle.std.specs.List.{All, AllByRecursion, flat_map}
use Rattle.std.specs.FinMap.{empty}
use Rattle.std.specs.Fmt.{decimal}
use Rattle.lsn_core.specs.Causes.{Rose}
use Rattle.lsn_core.specs.Files.{Files}
use Rattle.lsn_core.specs.Store.{Store}
use Rattle.lsn_core.specs.declared.lsn.Lsn.{Lsn}
use Rattle.lsn_core.specs.Segment.{StoreSettings}
use Rattle.lsn_core.specs.Tip.{Tip}
use Rattle.lsn_core.specs.declared.fault.StoreArea.{StoreArea}
use Rattle.lsn_core.specs.declared.fault.StoreArea.TheVariants.{Data}
use Rattle.lsn_core.specs.declared.fault.StoreFault.{StoreFault}
use Rattle.lsn_core.specs.declared.fault.StoreFault.TheVariants as store
use Rattle.vault.specs.Site.{Areas, AreaState}
use Rattle.vault.specs.Lending.{Names, IsOneOf}
use Rattle.wal_record.specs.declared.record.Record.{Record}
use Rattle.wal_record.specs.Tips.{first_tip, tip_behind}
use Rattle.wal_reader.specs.Wal.{IsWal}
use Rattle.history.specs.Entry.{Entry}
use Rattle.history.specs.Apply.{apply_all}
use Rattle.history.specs.Whole.{entry_of}
use Rattle.history.specs.Written.{wal_of, tip_of}
use Rattle.journal.specs.Lawful.{IsLawful}
use Rattle.recovery.specs.Causes.{HasSettings}
use Rattle.store_locks.specs.Calls.{MayWriteWal, IsOfRun}
use Rattle.store_areas.specs.Begin.{BeginCause, MayComeFirst, MayComeLate}
use Rattle.store_locks.specs.Records.{HoldsRecords}
use Rattle.store_lifecycle.specs.Close.{HoldsPart}
use Rattle.store_faults.specs.declared.begin_why.BeginWhy.{BeginWhy}
use Rattle.store_faults.specs.declared.begin_why.BeginWhy.TheVariants as begin
use Rattle.scripts.specs.declared.script.Task.{Task}
use Rattle.scripts.specs.declared.why.Why.{Why}
use Rattle.scripts.specs.Reasons.{script_limit, why_bytes}
use Rattle.scripts.specs.Script.{IsScript, IsRefusedAt}
use Rattle.scripts.specs.Named.{HaveOtherPriors}
use Rattle.scripts.specs.declared.script.Line.{Line}
use Rattle.run_answers.specs.Telling.{RunResult}
use Rattle.run_answers.specs.declared.answer.Stop.{Stop}
use Rattle.run_answers.specs.declared.answer.Stop.TheVariants as stop
use Rattle.summary_store.specs.Expiry.{age_limit}
use Rattle.crew.specs.Backups.{areas_asked}
use Rattle.crew.specs.Run.{Basis, basis_of, IsAnswered, BackupsStand, BackupFaultsRose, IncrsStand, TellsFault, IsHonestFor}
use Rattle.command_base.specs.declared.status.Status.{Status}
use Rattle.command_base.specs.declared.status.Status.TheVariants as status
use Rattle.run_answers.specs.declared.told.Told.{Told}
use Rattle.run_answers.specs.declared.outcome.RunReport.{RunReport}
use Rattle.run_answers.specs.declared.outcome.RunFault.{RunFault}
use Rattle.run_answers.specs.declared.outcome.RunFault.TheVariants as run
use Rattle.command_base.specs.Areas.{wal_name, data_name, sums_name, area_name, Keeps, AreaCause, AreaIsDurable}
use Rattle.command_base.specs.Outside.{IsMoment, Outside, Works, LeavesSite, IsUntaken}
use Rattle.run_command.specs.Input.{IsInput, TakesAtMost}
use Rattle.command_base.specs.Faults.{refused_line, area_text, take_text, memory_text, area_status, store_status}
use Rattle.run_answers.specs.Begin.{begin_text, begin_status}
use Rattle.run_answers.specs.Report.{first_told, report_text}

-- ---- the script

-- the most workers of a script that is run (profile)
abbrev pub run_workers : ℕ
run_workers = 8

-- the input was read, and it is a script that is taken
pub record HasScript (left now : Option (List ℕ)) (script : List Task) : Type 0 where
  pub bytes : List ℕ
  pub input : IsInput bytes left now
  pub script_is : IsScript run_workers bytes script

-- the input was read, and this line is the first that is refused
pub record HasRefusedLine (left now : Option (List ℕ)) (line : ℕ) (why : Why) : Type 0 where
  pub bytes : List ℕ
  pub input : IsInput bytes left now
  pub refused : IsRefusedAt run_workers bytes line why

-- no backup of a script is its own prior one
abbrev pub NamePriors : List Task → Type 0
NamePriors script = AllByRecursion (λ task. HaveOtherPriors task.lines) script

-- ---- what the run of a script comes to, over the areas of a store

-- the areas of a store
abbrev pub store_asks : Names
store_asks = wal_name ∷ data_name 0 ∷ data_name 1 ∷ data_name 2 ∷ data_name 3 ∷ []

-- those of the backups that a script takes, and of their prior ones
abbrev pub backups_asked : List Task → Names
backups_asked script = flat_map (λ task. areas_asked task.lines) script

-- those that it doesn't take for its store: of its backups, and of summaries
abbrev pub others_asked : List Task → Names
others_asked script = backups_asked script ++ (sums_name ∷ [])

-- the areas that it asks for, which it may change
abbrev pub run_asks : List Task → Names
run_asks script = others_asked script ++ store_asks

-- each of a store tells its files
abbrev pub AreTold : Areas → Type 0
AreTold areas = (name : List ℕ) → IsOneOf name store_asks → IsSome (areas name).files

-- the files of these areas are as they were
abbrev pub KeepAll : Names → Areas → Areas → Type 0
KeepAll names old new = (name : List ℕ) → IsOneOf name names → Keeps (old name) (new name)

-- these are the areas of a site, by these names
abbrev pub AreAsAt : Names → Areas → Areas → Type 0
AreAsAt names areas site = (name : List ℕ) → IsOneOf name names → areas name ≡ site name

-- each worker's areas are those of a site, by the names that its lines ask for
abbrev pub AreEachAsAt : List Told → (ℕ → Areas) → Areas → Type 0
AreEachAsAt told areas site =
    (worker : ℕ) (t : Told) → slice_get told worker ≡ Some t
    → AreAsAt (areas_asked t.task.lines) (areas worker) site

-- an area of the store failed only where its count of faults rose; want of memory may come at any
-- time
abbrev pub StoreFails : Areas → Areas → StoreFault → Type 0
StoreFails old new (store.Failed area) =
    Rose (old (area_name area)).faults (new (area_name area)).faults
StoreFails old new store.NoMemory = Unit {0}

-- the same of a data area
abbrev pub DataAreaFails : Areas → Areas → StoreFault → Type 0
DataAreaFails old new (store.Failed area) =
    (q : ℕ) × (q < 4) × (area ≡ Data q) × StoreFails old new (store.Failed (Data q))
DataAreaFails old new store.NoMemory = Unit {0}

-- the script whose workers were told answers
abbrev pub tasks_told : List Told → List Task
tasks_told told = map (λ t. t.task) told

-- where a WAL of these records ends
abbrev pub found_tip : StoreSettings → List Record → Tip
found_tip s found = tip_behind (first_tip s.segment) found

-- a WAL of these files has just these records
abbrev pub HasFound : StoreSettings → List Record → Files → Type 0
HasFound s found files = IsWal s files found (found_tip s found)

-- what a run's lines run on: the settings of its store, its moment, that before which a summary is
-- old that was made then, the entries that were found, and the files that the area of summaries had
-- then
abbrev pub run_basis : StoreSettings → ℕ → ℕ → List Record → Areas → Basis
run_basis s when limit found old =
    basis_of s when (map entry_of found) (old sums_name).files limit

-- a history goes on behind the entries that were found by entries of the workers alone, and, where
-- areas tell, lawfully, each entry in the place where it is written; over it
-- each worker's lines were answered so, at this moment, its commands there are those that its
-- answers name, and its marks no more than these allow; and its backups made of its areas those
pub record HasHistory
    (tells : Type 0) (b : Basis) (told : List Told) (held kept : ℕ → Areas) (history : List Entry)
    : Type 0 where
  pub own : List Entry
  pub grown : history ≡ b.found ++ own
  pub of_run : All (IsOfRun (length told)) own
  pub lawful : tells → IsLawful b.settings.segment history
  pub answered : (worker : ℕ) (t : Told) → slice_get told worker ≡ Some t
      → IsAnswered tells b worker history (length b.found) t.task.lines t.answers
      (held worker) (kept worker)

-- the records that were found, and behind them those that a history is written as
abbrev pub all_records : StoreSettings → List Record → List Entry → List Record
all_records s found history = found ++ wal_of s.segment history

-- the areas hold a history, durably: the WAL's records are those that were found and those that the
-- history is written as, replay of them makes the store that the history makes, and each data area
-- has just the files of its partition's part of that store
pub record HoldsRun (s : StoreSettings) (found : List Record) (history : List Entry) (new : Areas)
    : Type 0 where
  pub store : Store
  pub made : apply_all empty history ≡ Some store
  pub files : Files
  pub told : (new wal_name).files ≡ Some files
  pub records : HoldsRecords s (all_records s found history) (tip_of s.segment history).end files
  pub replayed : apply_all empty (map entry_of (all_records s found history)) ≡ Some store
  pub parts : (q : ℕ) → q < 4 → HoldsPart s.relseg q store (new (data_name q)).files
  pub durable : (name : List ℕ) → IsOneOf name store_asks → AreaIsDurable (new name)

-- of the WAL only what stands between the end that was found and the history's end may have changed
abbrev pub LeavesWal :
    StoreSettings → List Record → List Entry → AreaState → AreaState → Type 0
LeavesWal s found history old new =
    MayWriteWal s.segment (found_tip s found).end (tip_of s.segment history).end
    old.files new.files

-- what closing the store came to: where the WAL ends, which is where the history does, and then,
-- where the areas told their files, they hold the history; or which area failed, or memory ran out
abbrev pub IsClosing :
    StoreSettings → List Record → List Entry → Areas → Areas → Result Lsn StoreFault → Type 0
IsClosing s found history old new (Ok end) =
    (end.0 ≡ (tip_of s.segment history).end) × (AreTold old → HoldsRun s found history new)
IsClosing s found history old new (Err why) = StoreFails old new why

-- each area that a worker was told to have failed has a count of faults that rose
abbrev pub ToldFaultsRose : Areas → Areas → List Told → Type 0
ToldFaultsRose old new told =
    All (λ t. All (λ answer. (area : StoreArea) → TellsFault area answer
    → StoreFails old new (store.Failed area)) t.answers) told

-- the directory of each backup that was answered stands at the site, durably, where its area told
-- it then, or where no later line names the backup too: its pages were copied while a beginning of
-- the history was written
abbrev pub BackupsDone : Type 0 → Basis → List Entry → Areas → List Told → Type 0
BackupsDone tells b history new told =
    (worker : ℕ) (t : Told) → slice_get told worker ≡ Some t
    → BackupsStand tells b worker history t.task.lines t.answers new

-- so does that of each incremental backup, taken on what the prior backup's area held then, which
-- stands there too
abbrev pub IncrsDone : Type 0 → Basis → List Entry → Areas → List Told → Type 0
IncrsDone tells b history new told =
    (worker : ℕ) (t : Told) → slice_get told worker ≡ Some t
    → IncrsStand tells b worker history t.task.lines t.answers new

-- the area of each backup, or of a prior one, that was told to have failed has a count of faults
-- that rose
abbrev pub ToldBackupsFailed : Areas → Areas → List Told → Type 0
ToldBackupsFailed old new told =
    (worker : ℕ) (t : Told) → slice_get told worker ≡ Some t
    → BackupFaultsRose t.task.lines t.answers old new

-- where areas tell their files, an area of summaries that was honest for the entries that were
-- found is honest for the whole history, however the run ended
abbrev pub KeepsHonest : List Entry → List Entry → Areas → Areas → Type 0
KeepsHonest found history old new =
    AreTold old → IsHonestFor found (old sums_name) → IsHonestFor history (new sums_name)

-- a script was run on a store whose WAL has an entry, and whose entries make a store where its area
-- tells its files, at a moment, and came to a history. Whatever else came, the answers are true of
-- that
pub record RunDone (when : ℕ) (old new : Areas) (report : RunReport) : Type 0 where
  pub settings : StoreSettings
  pub given : HasSettings (old wal_name).files settings
  pub found : List Record
  pub some : 0 < length found
  pub base : Store
  pub made : IsSome (old wal_name).files → apply_all empty (map entry_of found) ≡ Some base
  pub archive : IfSome (old wal_name).files (HasFound settings found)
  pub opened : report.opened.0 ≡ (found_tip settings found).end
  -- the moment before which a summary is old that was made then
  pub limit : ℕ
  pub history : List Entry
  -- each worker's areas of backups, as they were and as they are
  pub held : ℕ → Areas
  pub were : AreEachAsAt report.told held old
  pub kept : ℕ → Areas
  pub are : AreEachAsAt report.told kept new
  pub happened :
      HasHistory (AreTold old) (run_basis settings when limit found old) report.told held kept
      history
  pub completed :
      BackupsDone (AreTold old) (run_basis settings when limit found old) history new report.told
  pub incremented :
      IncrsDone (AreTold old) (run_basis settings when limit found old) history new report.told
  pub left : LeavesWal settings found history (old wal_name) (new wal_name)
  pub closing : IsClosing settings found history old new report.closed
  pub risen : ToldFaultsRose old new report.told
  pub backups_failed : ToldBackupsFailed old new report.told
  pub honest : KeepsHonest (map entry_of found) history old new

-- ---- what running a script comes to

-- no store was begun, and the areas of the backups and of summaries are as they were: its WAL can't
-- be begun on, and all is as it was; or it was read, and can't be replayed into the data areas; or
-- one of these failed, or memory ran out while they were rebuilt. The WAL is as it was
abbrev pub CantBegin : List Task → Areas → Areas → BeginWhy → Type 0
CantBegin script old new (begin.Wal why) =
    KeepAll (run_asks script) old new
    × (MayComeFirst why
    × BeginCause (old wal_name).files (old wal_name).faults (new wal_name).faults why)
CantBegin script old new (begin.Replay why) =
    KeepAll (others_asked script) old new
    × (Keeps (old wal_name) (new wal_name)
    × (IfSome (old wal_name).files (λ m. MayComeLate why)
    × BeginCause (old wal_name).files (old wal_name).faults (new wal_name).faults why))
CantBegin script old new (begin.Data why) =
    KeepAll (others_asked script) old new
    × Keeps (old wal_name) (new wal_name) × DataAreaFails old new why

-- why running a script at a moment, with such a limit, comes to its answer, whether it was read or
-- made: it was run; or memory ran out, an area wasn't handed out, or no store can be begun. No
-- input is read
abbrev pub RunOfScript : ℕ → ℕ → List Task → Outside → Outside → RunResult → Type 0
RunOfScript when limit script old new (Ok report) =
    (tasks_told report.told ≡ script)
    × (done : RunDone when old.areas new.areas report) × (done.limit ≡ limit)
RunOfScript when limit script old new (Err (run.Input why)) = ⊥
RunOfScript when limit script old new (Err (run.Script line why)) = ⊥
RunOfScript when limit script old new (Err run.NoMemory) = LeavesSite old new
RunOfScript when limit script old new (Err (run.Site fault)) =
    IsUntaken (run_asks script) old new fault
RunOfScript when limit script old new (Err (run.Begin why)) =
    CantBegin script old.areas new.areas why

-- ---- what `run` comes to

-- why `run` of a script at a moment comes to its answer: the input failed, a line is refused, or
-- memory ran out; or this is the script of the input, and running it comes to the answer
abbrev pub RunAnswer : ℕ → ℕ → List Task → Outside → Outside → RunResult → Type 0
RunAnswer when limit script old new (Ok report) =
    HasScript old.left new.left script × RunOfScript when limit script old new (Ok report)
RunAnswer when limit script old new (Err (run.Input why)) =
    LeavesSite old new × AreaCause old.reads new.reads why
RunAnswer when limit script old new (Err (run.Script line why)) =
    LeavesSite old new × HasRefusedLine old.left new.left line why
RunAnswer when limit script old new (Err run.NoMemory) = LeavesSite old new
RunAnswer when limit script old new (Err (run.Site fault)) =
    HasScript old.left new.left script
    × RunOfScript when limit script old new (Err (run.Site fault))
RunAnswer when limit script old new (Err (run.Begin why)) =
    HasScript old.left new.left script
    × RunOfScript when limit script old new (Err (run.Begin why))

-- `run`, of a script where the input has one, at the clock's moment, keeping summaries for so many
-- days. Of the input no more is taken than one byte more than a script may have
abbrev pub RunDoes : ℕ → Outside → Outside → RunResult → Type 0
RunDoes days old new r =
    (when : ℕ) × (script : List Task) × IsMoment old when
    × Works (run_asks script) old new
    × (old.reads ≤ new.reads)
    × TakesAtMost (script_limit + 1) old.left new.left
    × RunAnswer when (age_limit days when) script old new r
