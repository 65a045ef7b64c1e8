use Rattle.std.proofs.Common.{◌-◌, ◌≤◌, length}
use Rattle.run_command.proofs.Reading.{IsFront}
use Rattle.run_command.proofs.input.read_input.Given as goal

abbrev pub invariant-loop-alloc : goal.invariant-loop-alloc
invariant-loop-alloc g l = record {
  front : IsFront l.bytes.items (g.I.Source.left l.fn.input) (g.I.Source.left l.input);
  size : length l.bytes.items ≤ 4194305;
  later : g.I.Source.faults l.fn.input ≤ g.I.Source.faults l.input;
}

abbrev pub decreases-loop-alloc : goal.decreases-loop-alloc
decreases-loop-alloc g l = 4194305 - length l.bytes.items
