use Rattle.std.proofs.Common.{take}
use Rattle.history.specs.Laws.{HaveGoodPages}
use Rattle.core_machine.proofs.running.know_items.Given as goal

abbrev pub invariant-loop-item : goal.invariant-loop-item
invariant-loop-item l = HaveGoodPages (take l.item-index l.items)
