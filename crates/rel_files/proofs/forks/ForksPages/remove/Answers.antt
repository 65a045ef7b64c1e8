use Rattle.std.proofs.lemmas.Result.{on_ok_weaker}
use Rattle.rel_files.proofs.WholePages.{gone_whole}
use Rattle.rel_files.proofs.forks.ForksPages.remove.Goals as goal

pub returns-clause-gone : goal.returns-clause-gone
returns-clause-gone g c = on_ok_weaker c.take_away.result (λ goes s h. record { holds = goes s h.holds; whole = gone_whole s c.args.fork h.whole }) c.take_away.ensures.away
