use Rattle.std.proofs.Common.{◌≡◌, drop}
use Rattle.command_judging.specs.Refusals.{judged_edits}
use Rattle.command_judging.proofs.form.judge_edits.Given as goal

abbrev pub invariant-loop-at : goal.invariant-loop-at
invariant-loop-at l = judged_edits l.at (drop l.at l.items) ≡ judged_edits 0 l.items
