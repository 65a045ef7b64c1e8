use Rattle.std.proofs.Common.{arith}
use Rattle.store_core.proofs.Overlaid.{over_next, over_all}
use Rattle.core_machine.proofs.over.put_fork.Goals as goal

pub loop-block-preserved : goal.loop-block-preserved
loop-block-preserved c =
    over_next c.args.sent.now c.args.copy.now c.args.prior.now c.args.store.now c.loop-block.store c.put_page.new.store c.args.fork.now c.loop-block.block c.in_ok-number.field-0 c.page_over.result
    c.in_ok-number.ensures c.loop-block.invariant (omega (arith, c.loop-block-test.true, c.blocks_in-count.ensures)) c.page_over.ensures c.in_ok-put_page.ensures

pub returns : goal.returns
returns c =
    over_all c.args.sent.now c.args.copy.now c.args.prior.now c.args.store.now c.loop-block.store c.args.fork.now c.blocks_in-count.result c.loop-block.block c.blocks_in-count.ensures (omega (arith, c.loop-block-test.false)) c.loop-block.invariant
