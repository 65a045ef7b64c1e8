use Rattle.std.proofs.Common.{◌≡◌, ◌++◌}
use Rattle.run_answers.specs.Report.{answer_lines}
use Rattle.run_answers.proofs.report.push_answers.Given as goal

abbrev pub invariant-loop-line : goal.invariant-loop-line
invariant-loop-line l =
    l.text.items ++ answer_lines l.told.task.name l.line-iterator.a.rest.now l.line-iterator.b.rest.now ≡ l.fn.text.items ++ answer_lines l.told.task.name l.told.task.lines l.told.answers
