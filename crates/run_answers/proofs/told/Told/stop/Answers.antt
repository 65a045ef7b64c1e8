use Rattle.std.proofs.Common.{◌∙◌, sym, inl, inr}
use Rattle.run_answers.proofs.Stops.{no_lines, no_answers}
use Rattle.run_answers.proofs.told.Told.stop.Goals as goal

pub returns : goal.returns
returns c = elim c.in-None.ensures.steps [
  | inl lines ↦ sym (no_lines _ _ lines.1.0) ∙ c.loop-line.invariant
  | inr answers ↦ sym (no_answers _ _ answers.1.0) ∙ c.loop-line.invariant
]
