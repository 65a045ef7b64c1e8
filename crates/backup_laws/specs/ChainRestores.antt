-- What `restore` makes of a chain of completed backups is what a replay of the whole WAL makes. A
-- backup is completed that a run answered, or that `combine` or `merge-incr` made of completed
-- ones.
use Rattle.std.specs.Prelude.{◌≡◌, ◌⊎◌, ℕ, List, [], ◌∷◌, Option, Some, IfSome, Ok}
use Rattle.std.specs.List.{AllByRecursion}
use Rattle.lsn_core.specs.Files.{Files}
use Rattle.lsn_core.specs.declared.lsn.Lsn.{Lsn}
use Rattle.vault.specs.Area.{Related}
use Rattle.vault.specs.Lending.{Names}
use Rattle.backup_label.specs.Label.{HasNoLineEnd}
use Rattle.command_base.specs.Areas.{wal_name, sums_name, output_name, backup_name}
use Rattle.command_base.specs.Outside.{Outside}
use Rattle.scripts.specs.declared.script.Task.{Task}
use Rattle.run_answers.specs.Telling.{RunResult}
use Rattle.run_command.specs.Run.{AreTold, RunDoes, RunOfScript}
use Rattle.command_line.specs.declared.options.InitOptions.{InitOptions}
use Rattle.store_commands.specs.Init.{InitDoes}
use Rattle.chain_commands.specs.declared.combining.CombineReport.{CombineReport}
use Rattle.store_commands.specs.declared.replaying.ReplayReport.{ReplayReport}
use Rattle.chain_commands.specs.Chain.{backup_areas, files_told}
use Rattle.backup_laws.specs.Runs.{IsBackedUp}
use Rattle.backup_laws.specs.Chains.{IsIncremented, TellsThroughout, FindsOwn}
use Rattle.backup_laws.specs.Telling.{TellsAround}
use Rattle.backup_laws.specs.CombinedChains.{HasCombined}
use Rattle.backup_laws.specs.MergedSeries.{HasMerged}
use Rattle.backup_laws.specs.Restores.{HasRun, HasRestored, PastRun, GoesOnFrom, IsWholeTo, replay_end, IsWholeReplay}

-- ---- runs

-- what a run found is what this program's own runs leave
abbrev pub FoundOwn :
    (run : PastRun) → HasRun run.before run.left run.report run.end → Type 0
FoundOwn run ran =
    FindsOwn ran.when run.before.areas run.left.areas run.report ran.done

-- a run was done over areas that tell their files all the while, on what this program's own runs
-- leave
pub record RanOn (run : PastRun) : Type 0 where
  pub ran : HasRun run.before run.left run.report run.end
  pub tells : TellsThroughout ran.when run.before.areas run.left.areas run.report ran.done
  pub finds : FoundOwn run ran

-- so were a run and the earlier ones, the latest first, each over a WAL that goes on from what the
-- one before it left: others may have run in between, and been refused, stopped or failed
abbrev pub RanInTurn : PastRun → List PastRun → Type 0
RanInTurn run [] = RanOn run
RanInTurn run (prior ∷ earlier) =
    RanOn run
    × Related GoesOnFrom (prior.left.areas wal_name).files (run.before.areas wal_name).files
    × RanInTurn prior earlier

-- ---- completed backups

-- files are the directory of a backup that a run answered, full or incremental, as the run left it,
-- under a name that ends no line, as each name of a script that was read
pub record IsTakenBy (run : PastRun) (files : Files) : Type 0 where
  pub name : List ℕ
  pub line : HasNoLineEnd name
  pub start : Lsn
  pub end : Lsn
  pub answered : IsBackedUp run.report.told name start end
      ⊎ IsIncremented run.report.told name start end
  pub left : (run.left.areas (backup_name name)).files ≡ Some files

-- one of these runs answered it
abbrev pub IsTakenByOne : List PastRun → Files → Type 0
IsTakenByOne [] files = ⊥
IsTakenByOne (run ∷ runs) files = IsTakenBy run files ⊎ IsTakenByOne runs files

-- a combining that ended well
pub record Combining : Type 0 where
  pub members : Names
  pub chain : List Files
  pub name : List ℕ
  pub made : Files
  pub old : Outside
  pub new : Outside
  pub report : CombineReport
  pub done : HasCombined members chain name made old new report

-- a merging that ended well
pub record Merging : Type 0 where
  pub members : Names
  pub series : List Files
  pub name : List ℕ
  pub made : Files
  pub old : Outside
  pub new : Outside
  pub report : CombineReport
  pub done : HasMerged members series name made old new report

-- one or the other; what it was made of, the oldest first, and what it made
pub data Making : Type 0 where
  Combined : Combining → Making
  Merged : Merging → Making

abbrev pub made_of : Making → List Files
made_of (Combined c) = c.chain
made_of (Merged m) = m.series

abbrev pub made_by : Making → Files
made_by (Combined c) = c.made
made_by (Merged m) = m.made

-- files are the directory of a completed backup: one of these runs answered it, or one of these
-- combinings and mergings, the latest first, made it of completed ones
abbrev pub IsCompletedBackup : List PastRun → List Making → Files → Type 0
IsCompletedBackup runs [] files = IsTakenByOne runs files
IsCompletedBackup runs (making ∷ earlier) files =
    IsCompletedBackup runs earlier files
    ⊎ ((files ≡ made_by making)
    × AllByRecursion (IsCompletedBackup runs earlier) (made_of making))

-- ---- the law

-- completed backups that stand under some names, and that `restore` accepts as a chain, are
-- restored to exactly what a replay of the whole WAL gives, to the same target: of a WAL that is
-- whole, and goes on from what the latest of the runs left
abbrev pub CompletedChainsAreReplays : Type 0
CompletedChainsAreReplays =
    (latest : PastRun) (earlier : List PastRun) (makings : List Making)
    (names : Names) (chain : List Files) (last old new : Outside) (end : Lsn)
    (out : List ℕ) (upto : Option Lsn) (report : ReplayReport)
    → RanInTurn latest earlier
    → Related GoesOnFrom (latest.left.areas wal_name).files (last.areas wal_name).files
    → IfSome (last.areas wal_name).files (IsWholeTo end)
    → files_told (backup_areas names last.areas) ≡ Some chain
    → AllByRecursion (IsCompletedBackup (latest ∷ earlier) makings) chain
    → HasRestored last upto out names old new report
    → IsWholeReplay (last.areas wal_name).files end (replay_end upto end) report
    (new.areas (output_name out)).files

-- ---- what runs leave to later ones

-- a WAL is whole as a run left it that closed its store
abbrev pub RunsLeaveWholeWals : Type 0
RunsLeaveWholeWals =
    (run : PastRun) → HasRun run.before run.left run.report run.end
    → IfSome (run.left.areas wal_name).files (IsWholeTo run.end)

-- whatever a run came to, stopped, failed or refused, its WAL goes on from what it found, where the
-- store's areas told their files
abbrev pub RunsGoOn : Type 0
RunsGoOn =
    (days : ℕ) (before left : Outside) (came : RunResult)
    → AreTold before.areas → RunDoes days before left came
    → Related GoesOnFrom (before.areas wal_name).files (left.areas wal_name).files

-- so does the WAL of a script that was made
abbrev pub RunsOfScriptsGoOn : Type 0
RunsOfScriptsGoOn =
    (when limit : ℕ) (script : List Task) (before left : Outside) (came : RunResult)
    → AreTold before.areas → RunOfScript when limit script before left came
    → Related GoesOnFrom (before.areas wal_name).files (left.areas wal_name).files

-- what a run finds is this program's own, where the one before it found so and closed its store,
-- and where the WAL and the summaries are as it left them: whether one of its workers was stopped
-- or not
abbrev pub RunsLeaveTheirOwn : Type 0
RunsLeaveTheirOwn =
    (run next : PastRun) (ran : HasRun run.before run.left run.report run.end)
    (on : HasRun next.before next.left next.report next.end)
    → (next.before.areas wal_name).files ≡ (run.left.areas wal_name).files
    → (next.before.areas sums_name).files ≡ (run.left.areas sums_name).files
    → FoundOwn run ran → FoundOwn next on

-- and so it is over a store that `init` made, where the WAL and the summaries are as it left them
abbrev pub NewStoresAreOwn : Type 0
NewStoresAreOwn =
    (options : InitOptions) (old new : Outside) (end : Lsn) (next : PastRun)
    (on : HasRun next.before next.left next.report next.end)
    → InitDoes options old new (Ok end)
    → (next.before.areas wal_name).files ≡ (new.areas wal_name).files
    → (next.before.areas sums_name).files ≡ (new.areas sums_name).files
    → FoundOwn next on

-- a run was done over areas that tell their files before it and behind it, took no backup's name
-- twice, and closed its store
pub record EndedWell (run : PastRun) : Type 0 where
  pub ran : HasRun run.before run.left run.report run.end
  pub tells : TellsAround run.before.areas run.left.areas run.report

-- the WAL and the summaries are as they were left
pub record AreAsLeft (left now : Outside) : Type 0 where
  pub wal : (now.areas wal_name).files ≡ (left.areas wal_name).files
  pub sums : (now.areas sums_name).files ≡ (left.areas sums_name).files

-- a run and the earlier ones ended well, each over what the one before it left, and the first over
-- what was made
abbrev pub RanSince : Outside → PastRun → List PastRun → Type 0
RanSince made run [] = EndedWell run × AreAsLeft made run.before
RanSince made run (prior ∷ earlier) =
    EndedWell run × AreAsLeft prior.left run.before × RanSince made prior earlier

-- so the runs since `init` made the store are in turn, where each of them closed its store and
-- nothing else wrote the WAL and the summaries
abbrev pub RunsSinceInitAreInTurn : Type 0
RunsSinceInitAreInTurn =
    (options : InitOptions) (old made : Outside) (end : Lsn)
    (latest : PastRun) (earlier : List PastRun)
    → InitDoes options old made (Ok end) → RanSince made latest earlier
    → RanInTurn latest earlier
