-- What holds of the script that is drawn from a number, as of any script that is read.
use Rattle.std.specs.Prelude.{ℕ, ◌≤◌, List, length}
use Rattle.std.specs.List.{AllByRecursion}
use Rattle.scripts.specs.declared.script.Task.{Task}
use Rattle.scripts.specs.Apart.{AreApart}
use Rattle.scripts.specs.Named.{HaveOtherPriors}
use Rattle.drill_script.specs.Drill.{drilled}

-- its workers are few, no two name one backup, and no backup is its own prior one
pub record IsRunnable (script : List Task) : Type 0 where
  pub few : length script ≤ 8
  pub apart : AreApart script
  pub priors : AllByRecursion (λ task. HaveOtherPriors task.lines) script

abbrev pub DrilledIsRunnable : Type 0
DrilledIsRunnable = (n : ℕ) → IsRunnable (drilled n)
