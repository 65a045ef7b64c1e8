use Rattle.std.proofs.Common.{◌-◌, ◌≤◌}
use Rattle.follow_command.proofs.Feeding.{HasFed}
use Rattle.follow_command.proofs.input.follow_input.Given as goal

-- so many bytes were fed
abbrev pub invariant-loop-count : goal.invariant-loop-count
invariant-loop-count g l = record {
  fed : HasFed l.fn.follower l.follower (g.I.Source.left l.fn.input) (g.I.Source.left l.input) l.total;
  later : g.I.Source.faults l.fn.input ≤ g.I.Source.faults l.input;
}

-- each piece has a byte
abbrev pub decreases-loop-count : goal.decreases-loop-count
decreases-loop-count g l = 268435456 - l.total
