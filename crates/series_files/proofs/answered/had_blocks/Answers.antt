use Rattle.std.proofs.Common.{◌||◌, false, get_or}
use Rattle.std.specs.Prelude.{nat_le}
use Rattle.series_files.proofs.Listed.{kept_next}
use Rattle.series_files.proofs.answered.had_blocks.Goals as goal

pub loop-block-preserved : goal.loop-block-preserved
loop-block-preserved c = record {
  kept = kept_next (λ b. get_or c.args.had.now b false || nat_le c.args.least b) c.loop-block.block c.loop-block.blocks.items c.add_if.new.blocks.items c.lists.result (c.lists.ensures false) c.in_ok-add_if.ensures c.loop-block.invariant.kept;
}
