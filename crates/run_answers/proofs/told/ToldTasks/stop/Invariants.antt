use Rattle.std.proofs.Common.{◌≡◌, drop}
use Rattle.run_answers.specs.Report.{first_told}
use Rattle.run_answers.proofs.told.ToldTasks.stop.Given as goal

abbrev pub invariant-loop-told : goal.invariant-loop-told
invariant-loop-told l = first_told (drop l.told-index l.self) ≡ first_told l.self
