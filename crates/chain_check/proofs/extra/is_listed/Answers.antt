use Rattle.std.proofs.Common.{rules, ◌∙◌}
use Rattle.std.specs.Ordering.{nat_cmp}
use Rattle.std.specs.Cmp.Lexicographic.{slice_cmp}
use Rattle.std.proofs.lemmas.Fn.{always_returns_same}
use Rattle.chain_check.proofs.Searched.{searched}
use Rattle.chain_check.proofs.extra.is_listed.Goals as goal

pub returns : goal.returns
returns c =
    c.is_ok.ensures.value ∙ searched c.args.rows.now c.args.path.now c.binary_search_by.result c.binary_search_by.ensures.bound
    (c.binary_search_by.ensures.position (λ row. slice_cmp nat_cmp row.path c.args.path.now) (always_returns_same _ _ _ (λ a r f k. search rules))) c.requires
