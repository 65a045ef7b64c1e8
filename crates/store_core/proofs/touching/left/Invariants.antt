use Rattle.std.proofs.Common.{◌≡◌, take}
use Rattle.store_core.specs.InMemory.{uncut}
use Rattle.store_core.proofs.touching.left.Given as goal

abbrev pub invariant-loop-at : goal.invariant-loop-at
invariant-loop-at l = l.some.items ≡ uncut l.fork l.count (take l.at-index l.dirty)
