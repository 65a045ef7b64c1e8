use Rattle.std.proofs.Common.{◌≡◌, ◌++◌, length}
use Rattle.std.specs.Vec.Iter.{into_iter_items, into_iter_len}
use Rattle.run_command.specs.Inner.{AreNamesFor, AreReady, tasks_of}
use Rattle.run_command.specs.Run.{NamePriors}
use Rattle.run_command.proofs.seats.work_of.Given as goal

-- the seats so far are those of the first tasks
abbrev pub invariant-loop-task : goal.invariant-loop-task
invariant-loop-task g l =
    (tasks_of l.seats.items ++ into_iter_items l.task-iterator ≡ l.fn.script)
    × (into_iter_len l.task-iterator ≡ length (into_iter_items l.task-iterator))
    × NamePriors (into_iter_items l.task-iterator)
    × AreReady l.seats.items
    × AreNamesFor l.seats.items l.names.items
