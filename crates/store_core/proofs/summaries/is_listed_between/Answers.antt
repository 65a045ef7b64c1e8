use Rattle.store_core.proofs.Together.{listed_next}
use Rattle.store_core.proofs.summaries.is_listed_between.Goals as goal

pub loop-sum-preserved : goal.loop-sum-preserved
loop-sum-preserved c =
    listed_next c.args.sums.now c.loop-sum.sum-index c.sum-item.result c.args.from.0 c.args.to.0 c.args.fork.now c.args.block c.loop-sum.listed c.listed_past-listed.result
    c.loop-sum-test.true c.sum-item.is c.loop-sum.invariant c.listed_past-listed.ensures
