use Rattle.std.proofs.Common.{◌++◌, arith}
use Rattle.wal_record.specs.Spelling.{all_heads}
use Rattle.wal_record.proofs.Writing.{one_more}
use Rattle.wal_record.proofs.blocks.add_heads.Goals as goal

pub loop-block-preserved : goal.loop-block-preserved
loop-block-preserved c = (
  omega (arith, c.loop-block.invariant.0),
  one_more c.loop-block.bytes.items c.add_head.new.bytes.items (c.args.bytes.now.items ++ all_heads c.args.blocks.now) c.loop-block.id c.loop-block.last c.args.blocks.now c.loop-block.block-index c.block-item.result (omega (arith, c.loop-block-test.true)) c.block-item.is c.in_ok-add_head.ensures c.loop-block.invariant.1,
)
