use Rattle.std.proofs.Common.{ℕ, List, length, map, sum, zero-add, ap, ◌∙◌}
use Rattle.std.specs.Global.{Vec}
use Rattle.history.specs.Pages.{page_count}
use Rattle.history.proofs.StoreMap.{page_count_in}
use Rattle.history.proofs.page_map.PageMap.counted.Goals as goal

pub loop-pages-init : goal.loop-pages-init
loop-pages-init c =
    zero-add _ ∙ ap (λ (vs : List (Vec (List ℕ))). sum (map (λ v. length v.items) vs)) (c.into_iter-pages-iterator.ensures.into_iter_gives ∙ c.values-pages-items.ensures.rest)
    ∙ page_count_in c.self.inside.forks c.values-pages-items.ensures.ordered ∙ ap page_count c.self.view_is
