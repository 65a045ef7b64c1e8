use Rattle.std.proofs.Common.{◌≡◌, ◌++◌, map}
use Rattle.std.specs.List.{range_with_len}
use Rattle.drill_script.specs.Drill.{writer_task}
use Rattle.drill_script.proofs.tasks.push_writers.Given as goal

abbrev pub invariant-loop-w : goal.invariant-loop-w
invariant-loop-w l = l.tasks.items ≡ l.initial.tasks.items ++ map (writer_task l.fn.n) (range_with_len 0 l.w)
