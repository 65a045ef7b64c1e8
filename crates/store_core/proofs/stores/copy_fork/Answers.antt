use Rattle.std.proofs.Common.{arith}
use Rattle.lsn_core.specs.Blocks.{pages_of}
use Rattle.store_core.proofs.Stored.{copied_next}
use Rattle.store_core.proofs.stores.copy_fork.Goals as goal

pub loop-block-preserved : goal.loop-block-preserved
loop-block-preserved c =
    copied_next c.args.copy.now c.loop-block.copy c.put_page.new.store (pages_of c.args.from.now c.args.fork.now) c.args.fork.now c.loop-block.block c.in_ok-number.field-0 c.page_at.result
    c.in_ok-number.ensures c.loop-block.invariant (omega (arith, c.loop-block-test.true, c.blocks_in-count.ensures)) c.page_at.ensures c.in_ok-put_page.ensures
