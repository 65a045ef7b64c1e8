use Rattle.std.proofs.Common.{rules, is_lt}
use Rattle.std.proofs.lemmas.Fn.{always_returns_same}
use Rattle.lsn_core.specs.Store.{fork_cmp}
use Rattle.summary_file.proofs.forks.are_in_order.Goals as goal

pub returns : goal.returns
returns c =
    c.is_sorted_by.ensures.cases (λ x y. is_lt (fork_cmp x.fork y.fork))
    (always_returns_same _ _ _ (λ a r f k. search rules))
