use Rattle.store_core.proofs.Together.{limit_next}
use Rattle.store_core.proofs.summaries.limit_between.Goals as goal

pub loop-sum-preserved : goal.loop-sum-preserved
loop-sum-preserved c =
    limit_next c.args.sums.now c.loop-sum.sum-index c.sum-item.result c.args.from.0 c.args.to.0 c.args.fork.now c.loop-sum.limit c.limit_past-limit.result
    c.loop-sum-test.true c.sum-item.is c.loop-sum.invariant c.limit_past-limit.ensures
