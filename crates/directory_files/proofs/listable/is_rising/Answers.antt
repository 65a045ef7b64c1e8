use Rattle.std.proofs.Common.{rules, is_lt}
use Rattle.std.specs.Ordering.{nat_cmp}
use Rattle.std.specs.Cmp.Lexicographic.{slice_cmp}
use Rattle.std.proofs.lemmas.Fn.{always_returns_same}
use Rattle.directory_files.proofs.listable.is_rising.Goals as goal

pub returns : goal.returns
returns c =
    c.is_sorted_by.ensures.cases (λ x y. is_lt (slice_cmp nat_cmp x y))
    (always_returns_same _ _ _ (λ a r f k. search rules))
