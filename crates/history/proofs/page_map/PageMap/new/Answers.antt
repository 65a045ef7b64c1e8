use Rattle.std.proofs.Common.{rules, ◌≡◌, sym, ap, ◌∙◌}
use Rattle.std.specs.FinMap.{empty}
use Rattle.history.specs.Pages.{store_in, page_count}
use Rattle.history.proofs.Counts.{page_count-empty}
use Rattle.history.proofs.page_map.PageMap.new.Goals as goal

pub invariant_of-result : goal.invariant_of-result
invariant_of-result c = let none : store_in c.new.result ≡ empty = search rules in sym (ap page_count none ∙ page_count-empty)
