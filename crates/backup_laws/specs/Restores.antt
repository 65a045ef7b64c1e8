-- What `restore` makes of a backup that `run` took is what a replay of the whole WAL makes.
use Rattle.std.specs.Prelude.{◌≡◌, ℕ, List, [], ◌∷◌, Option, Some, None, Ok, IsSome, IfSome}
use Rattle.std.specs.FinMap.{len}
use Rattle.lsn_core.specs.Files.{Files}
use Rattle.lsn_core.specs.Segment.{StoreSettings}
use Rattle.lsn_core.specs.Store.{Store, files_of}
use Rattle.lsn_core.specs.Tip.{Tip}
use Rattle.lsn_core.specs.declared.lsn.Lsn.{Lsn}
use Rattle.vault.specs.Area.{Related}
use Rattle.vault.specs.Lending.{Names, IsOneOf}
use Rattle.wal_record.specs.Tips.{first_tip}
use Rattle.wal_record.specs.declared.record.Record.{Record}
use Rattle.wal_reader.specs.Settings.{IsSettingsOf}
use Rattle.wal_reader.specs.Wal.{ReadsOn}
use Rattle.history.specs.Pages.{page_count}
use Rattle.rel_files.specs.Forks.{Holds, HasWholePages}
use Rattle.history.specs.Whole.{whole}
use Rattle.recovery.specs.Causes.{HasSettings}
use Rattle.store_locks.specs.Records.{HoldsRecords}
use Rattle.command_base.specs.Areas.{wal_name, output_name, backup_name}
use Rattle.command_base.specs.Outside.{Outside}
use Rattle.run_answers.specs.declared.outcome.RunReport.{RunReport}
use Rattle.run_command.specs.Run.{RunDoes, RunDone, AreTold}
use Rattle.store_commands.specs.declared.replaying.ReplayReport.{ReplayReport}
use Rattle.store_commands.specs.Replay.{ReplayDoes, end_by}
use Rattle.chain_commands.specs.Restore.{RestoreDoes}
use Rattle.backup_laws.specs.Runs.{IsBackedUp, IsLastOfName}

-- a script was run, at a moment, on a store whose areas tell their files, and the store was closed:
-- the WAL ends there. Whether the script was read or made is open
pub record HasRun (before left : Outside) (report : RunReport) (end : Lsn) : Type 0 where
  pub told : AreTold before.areas
  pub when : ℕ
  pub done : RunDone when before.areas left.areas report
  pub closed : report.closed ≡ Ok end

-- where `run` ran the script of its input so, it was run so
abbrev pub RunsOfInputsAreRuns : Type 0
RunsOfInputsAreRuns =
    (days : ℕ) (before left : Outside) (report : RunReport) (end : Lsn)
    → AreTold before.areas → RunDoes days before left (Ok report) → report.closed ≡ Ok end
    → HasRun before left report end

-- a run that was done so
pub record PastRun : Type 0 where
  pub before : Outside
  pub left : Outside
  pub report : RunReport
  pub end : Lsn

-- `restore` ended well, of the chain of backups of some names and to an output, which tell their
-- files; those of the WAL and of the backups are as they were left before
pub record HasRestored
    (left : Outside) (upto : Option Lsn) (out : List ℕ) (names : Names) (old new : Outside)
    (report : ReplayReport)
    : Type 0 where
  pub does : RestoreDoes upto out names old new (Ok report)
  pub wal : (old.areas wal_name).files ≡ (left.areas wal_name).files
  pub backups : (name : List ℕ) → IsOneOf name names
      → (old.areas (backup_name name)).files ≡ (left.areas (backup_name name)).files
  pub backups_told : (name : List ℕ) → IsOneOf name names
      → IsSome (old.areas (backup_name name)).files
  pub output_told : IsSome (old.areas (output_name out)).files

-- up to where is replayed of a WAL that ends at a place: to the target, where one is given
abbrev pub replay_end : Option Lsn → Lsn → ℕ
replay_end None end = end.0
replay_end (Some target) end = target.0

-- an output has just the files of the store that all records of a WAL make from nothing which end
-- at a place or before it, a store of whole pages, and these files hold just that; and where the
-- last of the records ends, and how many forks and pages there are, is told
pub record IsWholeReplay
    (wal : Option Files) (end : Lsn) (place : ℕ) (report : ReplayReport) (out : Option Files)
    : Type 0 where
  -- the WAL has these records and ends there
  pub files : Files
  pub told : wal ≡ Some files
  pub settings : StoreSettings
  pub given : HasSettings wal settings
  pub records : List Record
  pub held : HoldsRecords settings records end.0 files
  -- they make this
  pub store : Store
  pub made : whole records place ≡ Some store
  -- and this is what is there and what is told
  pub written : out ≡ Some (files_of settings.relseg store)
  pub holds : Holds settings.relseg (files_of settings.relseg store) store
  pub pages_whole : HasWholePages store
  pub last : report.end.0 ≡ end_by settings.segment place records
  pub forks : report.forks ≡ len store
  pub pages : report.pages ≡ page_count store

-- a backup that a run answered with `backup START END` is restored to exactly what a replay of the
-- whole WAL gives, to the same target
abbrev pub RunsAndRestoresAreReplays : Type 0
RunsAndRestoresAreReplays =
    (before left old new : Outside) (run : RunReport) (end start stop : Lsn)
    (name out : List ℕ) (upto : Option Lsn) (report : ReplayReport)
    (taken : IsBackedUp run.told name start stop)
    → HasRun before left run end → IsLastOfName run.told name start stop taken
    → HasRestored left upto out (name ∷ []) old new report
    → IsWholeReplay (left.areas wal_name).files end (replay_end upto end) report
    (new.areas (output_name out)).files

-- ---- beside the command `replay`

-- `replay` ended well, to an output that tells its files; those of the WAL are as they were left
-- before
pub record HasReplayed
    (left : Outside) (upto : Option Lsn) (out : List ℕ) (old new : Outside) (report : ReplayReport)
    : Type 0 where
  pub does : ReplayDoes upto out old new (Ok report)
  pub wal : (old.areas wal_name).files ≡ (left.areas wal_name).files
  pub output_told : IsSome (old.areas (output_name out)).files

-- two outputs have the same files, and the same is told of them
pub record AreAlike
    (one other : Option Files) (report told : ReplayReport)
    : Type 0 where
  pub files : one ≡ other
  pub reports : report ≡ told

-- so `restore` of such a backup leaves the files that `replay` of the same WAL to the same target
-- leaves, and tells what `replay` tells
abbrev pub RestoresAreAsReplays : Type 0
RestoresAreAsReplays =
    (before left old new was is : Outside) (run : RunReport) (end start stop : Lsn)
    (name out other : List ℕ) (upto : Option Lsn) (report told : ReplayReport)
    (taken : IsBackedUp run.told name start stop)
    → HasRun before left run end → IsLastOfName run.told name start stop taken
    → HasRestored left upto out (name ∷ []) old new report
    → HasReplayed left upto other was is told
    → AreAlike (new.areas (output_name out)).files (is.areas (output_name other)).files report told

-- ---- a WAL that goes on

-- a WAL goes on from what it was: it had the settings that it has, and by them all entries that
-- were read of it are read still, whatever stands behind them
abbrev pub GoesOnFrom : Files → Files → Type 0
GoesOnFrom was now =
    (s : StoreSettings) → IsSettingsOf now s
    → IsSettingsOf was s
    × ((records : List Record) (last : Tip) → ReadsOn s was (first_tip s.segment) records last
    → ReadsOn s now (first_tip s.segment) records last)

-- a WAL is whole up to a place: by its settings it is read as some entries, and ends there
abbrev pub IsWholeTo : Lsn → Files → Type 0
IsWholeTo end files =
    (s : StoreSettings) → IsSettingsOf files s
    → (records : List Record) × HoldsRecords s records end.0 files

-- a backup is restored so over every WAL that goes on from what its run left and is whole, where
-- its area is as it was left
abbrev pub LaterRestoresAreReplays : Type 0
LaterRestoresAreReplays =
    (before left last old new : Outside) (run : RunReport) (end top start stop : Lsn)
    (name out : List ℕ) (upto : Option Lsn) (report : ReplayReport)
    (taken : IsBackedUp run.told name start stop)
    → HasRun before left run end → IsLastOfName run.told name start stop taken
    → Related GoesOnFrom (left.areas wal_name).files (last.areas wal_name).files
    → IfSome (last.areas wal_name).files (IsWholeTo top)
    → (last.areas (backup_name name)).files ≡ (left.areas (backup_name name)).files
    → HasRestored last upto out (name ∷ []) old new report
    → IsWholeReplay (last.areas wal_name).files top (replay_end upto top) report
    (new.areas (output_name out)).files
