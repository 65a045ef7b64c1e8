use Rattle.wal_summary.specs.Marks.{table_of_marks}
use Rattle.wal_summary.specs.Inside.{block_table}
use Rattle.wal_summary.proofs.Tables.{added_next}
use Rattle.wal_summary.proofs.mark_map.MarkMap.touch_blocks.Goals as goal

pub loop-block-preserved : goal.loop-block-preserved
loop-block-preserved c =
    added_next (block_table c.args.fork.now) (table_of_marks c.args.self.now) (table_of_marks c.loop-block.self) (table_of_marks c.touch_block.new.self) c.args.blocks.now c.loop-block.block-index 0 c.loop-block-test.true c.loop-block.invariant c.in_ok-touch_block.ensures
