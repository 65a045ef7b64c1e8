-- Where areas tell their files before a run and behind it, they tell them behind each of its lines.
use Rattle.std.specs.Prelude.{◌≡◌, ◌≢◌, ℕ, List, [], ◌∷◌, slice_get, Some, IsSome}
use Rattle.vault.specs.Site.{Areas}
use Rattle.scripts.specs.declared.script.Line.{Line}
use Rattle.run_answers.specs.declared.answer.Answer.{Answer}
use Rattle.run_answers.specs.declared.answer.Answer.TheVariants.{Backup, BackupRefused, IncrRefused}
use Rattle.scripts.specs.Named.{backup_taken}
use Rattle.run_answers.specs.Stopping.{backup_stop, incr_stop}
use Rattle.run_answers.specs.declared.told.Told.{Told}
use Rattle.run_answers.specs.declared.outcome.RunReport.{RunReport}
use Rattle.run_command.specs.Run.{RunDone, AreTold, backups_asked, tasks_told}
use Rattle.backup_laws.specs.Chains.{AllTell, SumsTold, TellsThroughout}

-- ---- backups that are taken once

-- a line took no backup of this name, and wasn't stopped by a try to take one
abbrev pub TakesOther : List ℕ → Line → Answer → Type 0
TakesOther name line (Backup start end) = backup_taken line.command ≢ name
TakesOther name line (BackupRefused why) =
    IsSome (backup_stop why) → backup_taken line.command ≢ name
TakesOther name line (IncrRefused why) =
    IsSome (incr_stop why) → backup_taken line.command ≢ name
TakesOther name line answer = Unit {0}

-- so it is of each of these lines
abbrev pub NoneTakes : List ℕ → List Line → List Answer → Type 0
NoneTakes name [] answers = Unit {0}
NoneTakes name (line ∷ lines) [] = Unit {0}
NoneTakes name (line ∷ lines) (answer ∷ answers) =
    TakesOther name line answer × NoneTakes name lines answers

-- where a line took a backup, so it is of its name and the lines behind it
abbrev pub TakesLast : Line → Answer → List Line → List Answer → Type 0
TakesLast line (Backup start end) lines answers =
    NoneTakes (backup_taken line.command) lines answers
TakesLast line answer lines answers = Unit {0}

-- of no name were two backups taken, or one before a try by which the worker was stopped
abbrev pub AreTakenOnce : List Line → List Answer → Type 0
AreTakenOnce [] answers = Unit {0}
AreTakenOnce (line ∷ lines) [] = Unit {0}
AreTakenOnce (line ∷ lines) (answer ∷ answers) =
    TakesLast line answer lines answers × AreTakenOnce lines answers

-- ---- the law

-- all areas that a run's lines ask for tell their files when it begins, those of its backups when
-- it ends, and each worker took its backups once
pub record TellsAround (old new : Areas) (report : RunReport) : Type 0 where
  pub before : AllTell (backups_asked (tasks_told report.told)) old
  pub sums : SumsTold report.told old
  pub behind : AllTell (backups_asked (tasks_told report.told)) new
  pub once : (worker : ℕ) (t : Told) → slice_get report.told worker ≡ Some t
      → AreTakenOnce t.task.lines t.answers

-- so they tell them behind each line too, where those of the store told them when it began
abbrev pub RunsTellThroughout : Type 0
RunsTellThroughout =
    (when : ℕ) (old new : Areas) (report : RunReport) (run : RunDone when old new report)
    → AreTold old → TellsAround old new report → TellsThroughout when old new report run
