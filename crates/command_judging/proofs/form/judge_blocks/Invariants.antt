use Rattle.std.proofs.Common.{◌≡◌, [], map, take, drop}
use Rattle.command_judging.specs.Refusals.{judged_blocks}
use Rattle.command_judging.proofs.form.judge_blocks.Given as goal

abbrev pub invariant-loop-at : goal.invariant-loop-at
invariant-loop-at l = judged_blocks l.at (map (λ i. i.at) (take l.at l.items)) (drop l.at l.items) ≡ judged_blocks 0 [] l.items
