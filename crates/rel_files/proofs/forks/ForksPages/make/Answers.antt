use Rattle.std.proofs.lemmas.Result.{on_ok_weaker}
use Rattle.rel_files.proofs.WholePages.{made_whole}
use Rattle.rel_files.proofs.forks.ForksPages.make.Goals as goal

pub returns-clause-made : goal.returns-clause-made
returns-clause-made g c = on_ok_weaker c.make_empty.result (λ makes s h. record { holds = makes s h.holds; whole = made_whole s c.args.fork h.whole }) c.make_empty.ensures.there
