use Rattle.std.proofs.Common.{◌≡◌}
use Rattle.run_answers.specs.Report.{first_stop}
use Rattle.run_answers.proofs.told.Told.stop.Given as goal

-- the lines before these stopped nothing
abbrev pub invariant-loop-line : goal.invariant-loop-line
invariant-loop-line l = first_stop l.line-iterator.a.rest.now l.line-iterator.b.rest.now ≡ first_stop l.self.task.lines l.self.answers
