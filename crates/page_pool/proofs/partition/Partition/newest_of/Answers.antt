use Rattle.std.proofs.Common.{Option, ℕ, ap, ◌∙◌}
use Rattle.page_pool.specs.Writing.{later_end}
use Rattle.page_pool.proofs.Ended.{newest_more}
use Rattle.page_pool.proofs.partition.Partition.newest_of.Goals as goal

pub loop-at-preserved : goal.loop-at-preserved
loop-at-preserved g c =
    c.later-newest.ensures ∙ ap (λ (o : Option ℕ). later_end o c.dirty_end.result) c.loop-at.invariant
    ∙ newest_more c.args.self.now.framed c.args.blocks.now c.loop-at.at-index c.at-item.result c.dirty_end.result c.loop-at-test.true c.at-item.is c.dirty_end.ensures
