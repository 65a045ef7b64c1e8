-- That `run` begins alike from one outside.
use Rattle.std.specs.Prelude.{ℕ, ◌≡◌, Ok, Err}
use Rattle.recovery.specs.Causes.{IsOfFiles}
use Rattle.store_faults.specs.declared.begin_why.BeginWhy.TheVariants as begin
use Rattle.command_base.specs.Outside.{Outside, AllTold}
use Rattle.run_answers.specs.declared.outcome.RunFault.{RunFault}
use Rattle.run_answers.specs.declared.outcome.RunFault.TheVariants as run
use Rattle.run_answers.specs.Telling.{RunResult}
use Rattle.run_command.specs.Run.{RunDoes, tasks_told}

-- a refusal of `run` that the outside decides, and no failed device and no want of memory
abbrev pub IsOfOutside : RunFault → Type 0
IsOfOutside (run.Input why) = ⊥
IsOfOutside (run.Script line why) = Unit {0}
IsOfOutside run.NoMemory = ⊥
IsOfOutside (run.Site fault) = ⊥
IsOfOutside (run.Begin (begin.Wal why)) = IsOfFiles why
IsOfOutside (run.Begin (begin.Replay why)) = IsOfFiles why
IsOfOutside (run.Begin (begin.Data why)) = ⊥

-- two runs were refused for one reason, or both of them began: of one script, where the WAL ended
abbrev pub BeginAlike : RunResult → RunResult → Type 0
BeginAlike (Ok a) (Ok b) = (a.opened ≡ b.opened) × (tasks_told a.told ≡ tasks_told b.told)
BeginAlike (Ok a) (Err fault) = IsOfOutside fault → ⊥
BeginAlike (Err fault) (Ok b) = IsOfOutside fault → ⊥
BeginAlike (Err fault) (Err other) = IsOfOutside fault → IsOfOutside other → fault ≡ other

-- two runs from one outside that tells its contents, whatever summaries they keep and however they
-- ended, begin alike
abbrev pub RunsBeginAlike : Type 0
RunsBeginAlike =
    (days also : ℕ) (old new other : Outside) (a b : RunResult) → AllTold old
    → RunDoes days old new a → RunDoes also old other b → BeginAlike a b
