-- `drill`: what a new store, a script that is drawn from a number, its backups and their restore
-- come to in one call.
use Rattle.std.specs.Prelude.{◌≡◌, ◌≢◌, ℕ, ◌+◌, List, [], ◌∷◌, ◌++◌, None, Result, Ok, Err, IfSome, codes}
use Rattle.std.specs.Result.{IsErr}
use Rattle.lsn_core.specs.Segment.{StoreSettings}
use Rattle.lsn_core.specs.declared.lsn.Lsn.{Lsn}
use Rattle.vault.specs.Lending.{Names}
use Rattle.command_base.specs.declared.status.Status.TheVariants as status
use Rattle.command_base.specs.Areas.{wal_name, sums_name, output_name}
use Rattle.command_base.specs.Outside.{Outside, Works, IsMoment}
use Rattle.drill_script.specs.Drill.{drilled, drill_0, drill_1, drill_2}
use Rattle.store_commands.specs.declared.replaying.ReplayReport.{ReplayReport}
use Rattle.store_commands.specs.Init.{init_writes, InitRan}
use Rattle.run_answers.specs.declared.outcome.RunReport.{RunReport}
use Rattle.run_answers.specs.Telling.{run_status}
use Rattle.run_command.specs.Run.{run_asks, RunOfScript}
use Rattle.chain_commands.specs.Chain.{backup_names}
use Rattle.chain_commands.specs.Restore.{RestoreRan}
use Rattle.pgbackup_cli.specs.declared.drill_command.report.DrillReport.{DrillReport}
use Rattle.pgbackup_cli.specs.declared.drill_command.report.DrillFault.{DrillFault}
use Rattle.pgbackup_cli.specs.declared.drill_command.report.DrillFault.TheVariants as drill
use Rattle.pgbackup_cli.specs.drill_command.Clearing.{AreClear, AreUnclear, IsUnread}
use Rattle.pgbackup_cli.specs.drill_command.Contents.{IsSumOf}

abbrev pub DrillResult : Type 0
DrillResult = Result DrillReport DrillFault

-- ---- the store and its areas

-- how many blocks of a fork its files have (profile)
abbrev pub drill_relseg : ℕ
drill_relseg = 64

-- its settings: segments of 1 MiB, and the number's system identifier (profile)
abbrev pub drill_settings : ℕ → StoreSettings
drill_settings n = record { segment = 1; relseg = drill_relseg; system = n + 1 }

-- its chain of backups, the oldest one first, and the area into which that is restored
abbrev pub drill_members : Names
drill_members = drill_0 ∷ drill_1 ∷ drill_2 ∷ []

abbrev pub drill_name : List ℕ
drill_name = codes "drill"

abbrev pub drill_out : List ℕ
drill_out = output_name drill_name

-- the areas that have to be empty, in order
abbrev pub areas_cleared : Names
areas_cleared = wal_name ∷ sums_name ∷ (backup_names drill_members ++ (drill_out ∷ []))

-- those that it may change
abbrev pub drill_writes : ℕ → Names
drill_writes n = run_asks (drilled n) ++ (drill_out ∷ [])

-- ---- one step behind the other

-- the areas that have to be empty were looked at, and are
pub record HasLooked (old looked : Outside) : Type 0 where
  pub clear : AreClear areas_cleared old.areas
  pub reads : Works [] old looked

-- then a new store was made
pub record HasBegun (n : ℕ) (old begun : Outside) : Type 0 where
  pub looked : Outside
  pub before : HasLooked old looked
  pub wrote : Works init_writes looked begun
  pub end : Lsn
  pub made : InitRan (drill_settings n) looked begun (Ok end)

-- then the script was run on it at a moment, keeping all summaries, to the end
pub record HasRun (n when : ℕ) (old ran : Outside) : Type 0 where
  pub begun : Outside
  pub before : HasBegun n old begun
  pub wrote : Works (run_asks (drilled n)) begun ran
  pub run : RunReport
  pub done : RunOfScript when 0 (drilled n) begun ran (Ok run)
  pub ended : run_status (Ok run) ≡ status.Done

-- then the chain of its backups was restored, to the WAL's end
pub record HasRestored (n when : ℕ) (old left : Outside) (restored : ReplayReport) : Type 0 where
  pub ran : Outside
  pub before : HasRun n when old ran
  pub wrote : Works (drill_out ∷ []) ran left
  pub made : RestoreRan None drill_members drill_out ran left (Ok restored)

-- and so many forks and pages were restored, with this sum of contents
pub record DrillDone (n when : ℕ) (old new : Outside) (report : DrillReport) : Type 0 where
  pub left : Outside
  pub restored : ReplayReport
  pub before : HasRestored n when old left restored
  pub reads : Works [] left new
  pub forks : report.forks ≡ restored.forks
  pub pages : report.pages ≡ restored.pages
  pub sum : IfSome (new.areas drill_out).files (λ files. IsSumOf drill_relseg files report.sum)

-- ---- why a step isn't done

-- why the drill of a number at a moment is refused: memory ran out; the areas aren't empty; the
-- store wasn't made; the run came to another end; its backups weren't restored; or what was
-- restored couldn't be read again
abbrev pub DrillRefused : ℕ → ℕ → Outside → Outside → DrillFault → Type 0
DrillRefused n when old new drill.NoMemory = Unit {0}
DrillRefused n when old new (drill.Area why) =
    Works [] old new × AreUnclear areas_cleared old new why
DrillRefused n when old new (drill.Init came) =
    (looked : Outside) × HasLooked old looked × Works init_writes looked new
    × InitRan (drill_settings n) looked new came × IsErr came
DrillRefused n when old new (drill.Run came) =
    (begun : Outside) × HasBegun n old begun × Works (run_asks (drilled n)) begun new
    × RunOfScript when 0 (drilled n) begun new came × (run_status came ≢ status.Done)
DrillRefused n when old new (drill.Restore came) =
    (ran : Outside) × HasRun n when old ran × Works (drill_out ∷ []) ran new
    × RestoreRan None drill_members drill_out ran new came × IsErr came
DrillRefused n when old new (drill.Read why) =
    (left : Outside) × (restored : ReplayReport) × HasRestored n when old left restored
    × Works [] left new × IsUnread drill_out left new why

-- ---- what `drill` comes to

abbrev pub DrillAnswer : ℕ → ℕ → Outside → Outside → DrillResult → Type 0
DrillAnswer n when old new (Ok report) = DrillDone n when old new report
DrillAnswer n when old new (Err fault) = DrillRefused n when old new fault

-- `drill` of a number, at the clock's moment
abbrev pub DrillDoes : ℕ → Outside → Outside → DrillResult → Type 0
DrillDoes n old new r =
    (when : ℕ) × IsMoment old when × Works (drill_writes n) old new
    × DrillAnswer n when old new r
