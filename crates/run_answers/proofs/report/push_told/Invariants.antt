use Rattle.std.proofs.Common.{◌≡◌, ◌++◌, take}
use Rattle.std.specs.List.{flat_map}
use Rattle.run_answers.specs.Report.{worker_lines}
use Rattle.run_answers.proofs.report.push_told.Given as goal

abbrev pub invariant-loop-told : goal.invariant-loop-told
invariant-loop-told l = l.text.items ≡ l.fn.text.items ++ flat_map worker_lines (take l.told-index l.fn.told)
