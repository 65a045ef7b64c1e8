use Rattle.std.proofs.Common.{◌-◌, ◌≡◌, ◌≤◌, ◌+◌, ◌++◌}
use Rattle.drill_script.specs.Drill.{lines_from}
use Rattle.drill_script.proofs.tasks.push_steps.Given as goal

abbrev pub invariant-loop-done : goal.invariant-loop-done
invariant-loop-done l = record {
  least : 1 ≤ l.writer.len;
  most : l.writer.len ≤ 200;
  lines : l.initial.lines ++ lines_from l.fn.w 500 l.fn.number l.fn.from ≡ l.lines ++ lines_from l.fn.w (500 - l.done) (l.fn.number + l.done) l.writer;
}
