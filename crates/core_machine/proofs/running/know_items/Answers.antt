use Rattle.core_machine.proofs.Good.{good_more}
use Rattle.core_machine.proofs.running.know_items.Goals as goal

pub loop-item-preserved : goal.loop-item-preserved
loop-item-preserved c = good_more c.args.items.now c.loop-item.item-index c.item-item.result c.loop-item-test.true c.item-item.is c.loop-item.invariant c.know_edit.ensures
