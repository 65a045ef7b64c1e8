use Rattle.std.proofs.Common.{rules, is_lt}
use Rattle.std.specs.Ordering.{nat_cmp}
use Rattle.std.specs.Cmp.Lexicographic.{slice_cmp}
use Rattle.std.proofs.lemmas.Fn.{always_returns_same}
use Rattle.chain_check.proofs.Sorted.{rising_sorted}
use Rattle.chain_check.proofs.held.is_rising.Goals as goal

pub returns : goal.returns
returns c =
    rising_sorted c.args.rows.now c.is_sorted_by.result
    (c.is_sorted_by.ensures.cases (λ x y. is_lt (slice_cmp nat_cmp x.path y.path))
    (always_returns_same _ _ _ (λ a r f k. search rules)))
