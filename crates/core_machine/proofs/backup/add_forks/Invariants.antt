use Rattle.std.proofs.Common.{◌≡◌, take}
use Rattle.store_core.specs.Steps.{with_forks, unread}
use Rattle.core_machine.proofs.backup.add_forks.Given as goal

abbrev pub invariant-loop-i : goal.invariant-loop-i
invariant-loop-i l = l.copy ≡ with_forks unread l.disk l.fn.copy (take l.i l.forks)
