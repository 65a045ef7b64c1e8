use Rattle.summary_store.proofs.Keeping.{last_end}
use Rattle.summary_store.proofs.opening.end_behind.Goals as goal

pub returns-in-Some : goal.returns-in-Some
returns-in-Some c = last_end c.args.sums.now c.args.low.0 c.in-Some.sum.now c.in-Some.ensures.item.3.0 c.in-Some.ensures.item.1
