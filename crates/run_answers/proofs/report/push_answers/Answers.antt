use Rattle.std.proofs.Common.{inl, inr}
use Rattle.run_answers.proofs.AnswerLines.{lines_ended, answers_ended}
use Rattle.run_answers.proofs.report.push_answers.Goals as goal

pub returns : goal.returns
returns c = elim c.in-None.ensures.steps [
  | inl lines ↦ lines_ended c.args.told.now.task.name _ _ _ _ c.loop-line.invariant lines.1.0
  | inr answers ↦ answers_ended c.args.told.now.task.name _ _ _ _ c.loop-line.invariant answers.1.0
]
