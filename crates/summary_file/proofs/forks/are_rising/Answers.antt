use Rattle.std.proofs.Common.{rules, nat_lt}
use Rattle.std.proofs.lemmas.Fn.{always_returns_same}
use Rattle.summary_file.proofs.Rising.{rising}
use Rattle.summary_file.proofs.forks.are_rising.Goals as goal

pub returns : goal.returns
returns c =
    rising c.args.blocks.now c.is_sorted_by.result (c.is_sorted_by.ensures.cases nat_lt (always_returns_same _ _ _ (λ a r f k. search rules)))
