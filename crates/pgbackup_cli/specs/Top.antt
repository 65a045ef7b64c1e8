-- What a run of the program is: one answer, and the outside, the lines and the status as it says. A
-- command joins by its file, and by one row in each of these definitions.
use Rattle.std.specs.Prelude.{◌≡◌, ◌⊎◌, ℕ, List, Option, Some, None, Result}
use Rattle.lsn_core.specs.declared.fault.AreaFault.{AreaFault}
use Rattle.pgbackup_cli.specs.declared.command_answers.answer.Answer.{Answer}
use Rattle.pgbackup_cli.specs.declared.command_answers.answer.Answer.TheVariants as answer
use Rattle.command_base.specs.declared.status.Status.{Status}
use Rattle.command_line.specs.declared.options.InitOptions.{InitOptions}
use Rattle.command_line.specs.Words.{Asked, Init, Run, Replay, Verify, Restore, Combine, Merge, Walsummary, Follow, Drill, Restart, asked}
use Rattle.command_base.specs.Outside.{Outside, LeavesSite, Prints}
use Rattle.store_commands.specs.Init.{InitResult, InitDoes}
use Rattle.pgbackup_cli.specs.command_answers.Telling.{text_of, status_of}
use Rattle.run_answers.specs.Telling.{RunResult}
use Rattle.run_command.specs.Run.{RunDoes}
use Rattle.store_commands.specs.Replay.{ReplayResult, ReplayDoes}
use Rattle.chain_commands.specs.Verify.{VerifyResult, VerifyDoes}
use Rattle.chain_commands.specs.Restore.{RestoreResult, RestoreDoes}
use Rattle.chain_commands.specs.Combine.{CombineResult, CombineDoes}
use Rattle.chain_commands.specs.Merge.{MergeDoes}
use Rattle.store_commands.specs.Walsummary.{WalsummaryResult, WalsummaryDoes}
use Rattle.store_commands.specs.Follow.{FollowResult, FollowDoes}
use Rattle.restart_command.specs.Restart.{RestartResult, RestartDoes}
use Rattle.pgbackup_cli.specs.drill_command.Drill.{DrillResult, DrillDoes}

-- what was asked was done, and this is the answer
abbrev pub DoesAsked : Option Asked → Outside → Outside → Answer → Type 0
DoesAsked None old new came = (came ≡ answer.Usage) × LeavesSite old new
DoesAsked (Some (Init options)) old new came =
    (r : InitResult) × (came ≡ answer.Init r) × InitDoes options old new r
DoesAsked (Some (Run frames days)) old new came =
    (r : RunResult) × (came ≡ answer.Run r) × RunDoes days old new r
DoesAsked (Some (Replay upto name)) old new came =
    (r : ReplayResult) × (came ≡ answer.Replay r) × ReplayDoes upto name old new r
DoesAsked (Some (Verify name)) old new came =
    (r : VerifyResult) × (came ≡ answer.Verify r) × VerifyDoes name old new r
DoesAsked (Some (Restore upto out names)) old new came =
    (r : RestoreResult) × (came ≡ answer.Restore r) × RestoreDoes upto out names old new r
DoesAsked (Some (Combine out names)) old new came =
    (r : CombineResult) × (came ≡ answer.Combine r) × CombineDoes out names old new r
DoesAsked (Some (Merge out names)) old new came =
    (r : CombineResult) × (came ≡ answer.Merge r) × MergeDoes out names old new r
DoesAsked (Some (Walsummary from to)) old new came =
    (r : WalsummaryResult) × (came ≡ answer.Walsummary r) × WalsummaryDoes from to old new r
DoesAsked (Some (Follow mib relseg name)) old new came =
    (r : FollowResult) × (came ≡ answer.Follow r) × FollowDoes mib relseg name old new r
DoesAsked (Some (Drill n)) old new came =
    (r : DrillResult) × (came ≡ answer.Drill r) × DrillDoes n old new r
DoesAsked (Some Restart) old new came =
    (r : RestartResult) × (came ≡ answer.Restart r) × RestartDoes old new r

-- it was done, or memory ran out while the words were read, and nothing was done
abbrev pub Came : Option Asked → Outside → Outside → Answer → Type 0
Came words old new came =
    DoesAsked words old new came ⊎ ((came ≡ answer.NoMemory) × LeavesSite old new)

-- `run` and `follow` read the input
abbrev pub ReadsInput : Option Asked → Type 0
ReadsInput words =
    ((frames days : ℕ) × (words ≡ Some (Run frames days)))
    ⊎ ((mib relseg : ℕ) × (name : List ℕ) × (words ≡ Some (Follow mib relseg name)))

-- `run`, `combine`, `merge-incr` and `drill` read the clock, and `init`, where no system identifier
-- is given
abbrev pub ReadsClock : Option Asked → Type 0
ReadsClock words =
    ((frames days : ℕ) × (words ≡ Some (Run frames days)))
    ⊎ ((out : List ℕ) × (names : List (List ℕ)) × (words ≡ Some (Combine out names)))
    ⊎ ((out : List ℕ) × (names : List (List ℕ)) × (words ≡ Some (Merge out names)))
    ⊎ ((n : ℕ) × (words ≡ Some (Drill n)))
    ⊎ ((options : InitOptions) × (words ≡ Some (Init options)) × (options.system ≡ None))

-- a run of the program on words that ask this, which comes to this answer, and ends so
pub record ComesTo (words : Option Asked) (old new : Outside) (answer : Answer)
    (status : Status) : Type 0 where
  pub telling : Result (Unit {0}) AreaFault
  pub work : Came words old new answer
  pub line : Prints (text_of words answer) old new telling
  pub ended : status ≡ status_of answer telling

-- a run of the program on these words
pub record Ran (words : List (List ℕ)) (old new : Outside) (status : Status) : Type 0 where
  pub answer : Answer
  pub comes : ComesTo (asked words) old new answer status
