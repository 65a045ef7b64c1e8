-- Items whose pages have good headers, one more at a time.
use Rattle.std.proofs.Common.{◌≡◌, ℕ, ◌+◌, ◌<◌, List, [], ◌∷◌, ◌++◌, length, get_or, take, sym, ap, subst, ◌∙◌}
use Rattle.std.proofs.lemmas.List.{take_more}
use Rattle.history.specs.declared.op.Item.{Item}
use Rattle.history.specs.Laws.{HasGoodPage, HaveGoodPages}

good_push : (items : List Item) (item : Item) → HaveGoodPages items → HasGoodPage item.edit → HaveGoodPages (items ++ (item ∷ []))
good_push [] item good one = (one, tt)
good_push (first ∷ items) item good one = (good.0, good_push items item good.1 one)

pub good_more : (items : List Item) (i : ℕ) (item : Item) → i < length items → item ≡ get_or items i item → HaveGoodPages (take i items) → HasGoodPage item.edit → HaveGoodPages (take (i + 1) items)
good_more items i item within is good one =
    subst HaveGoodPages (sym (take_more items i item within ∙ ap (λ (x : Item). take i items ++ (x ∷ [])) (sym is))) (good_push (take i items) item good one)
