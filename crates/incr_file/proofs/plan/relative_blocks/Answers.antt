use Rattle.std.proofs.Common.{arith}
use Rattle.incr_file.proofs.Plans.{counted_rising}
use Rattle.incr_file.proofs.plan.relative_blocks.Goals as goal

pub from_rising-requires : goal.from_rising-requires
from_rising-requires c = counted_rising c.loop-block.relative.items c.args.blocks.now c.args.first c.loop-block.block-index c.loop-block.invariant (omega arith) c.requires.rising c.requires.behind
