-- One slot after the other.
use Rattle.std.proofs.Common.{arith}
use Rattle.chain_files.proofs.Slots.{settled_more}
use Rattle.chain_files.proofs.slot.settle.Goals as goal

pub loop-block-preserved : goal.loop-block-preserved
loop-block-preserved c =
    settled_more c.args.form.now c.args.member c.args.slots.now c.loop-block.slots c.loop-block.block _ c.settled_slot.result (omega (arith, c.loop-block-test.true, c.loop-block.invariant.long)) c.settled_slot.ensures c.loop-block.invariant
