use Rattle.std.proofs.Common.{◌≡◌, take}
use Rattle.core_machine.specs.Inside.{lengths_in}
use Rattle.core_machine.proofs.backup.lengths.Given as goal

abbrev pub invariant-loop-i : goal.invariant-loop-i
invariant-loop-i l = l.list.items ≡ lengths_in l.disk (take l.i l.forks)
