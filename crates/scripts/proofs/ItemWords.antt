-- How many items words may write.
use Rattle.std.proofs.Common.{◌≡◌, ℕ, ◌<◌, ◌≤◌, Bool, true, false, cond, List, [], ◌∷◌, length, nat_le, Option, Some, None, refl, ap, ◌∙◌, arith}
use Rattle.std.specs.Prelude.{◌&&◌}
use Rattle.std.proofs.lemmas.Bool.{cond-true, cond-false}
use Rattle.std.proofs.lemmas.Bool.Decides.{nat_tests}
use Rattle.scripts.specs.declared.order.OrderItem.{OrderItem}
use Rattle.scripts.specs.Items.{each_in, item_in, items_in}
use Rattle.scripts.proofs.Each.{EachRead, one_not_read, all_read, count_read}

over : (n most : ℕ) → most < n → (nat_le 1 n && nat_le n most) ≡ false
over n most lt = grind (arith, nat_tests)

within : (n most : ℕ) → 1 ≤ n → n ≤ most → (nat_le 1 n && nat_le n most) ≡ true
within n most least le = grind (arith, nat_tests)

cond_none : {A : Type 0} (b : Bool) (o : Option A) → o ≡ None → cond b o None ≡ None
cond_none true o e = e
cond_none false o e = refl

pub too_many : (words : List (List ℕ)) (word : List ℕ) (rest : List (List ℕ)) (items : List OrderItem) → EachRead item_in words (word ∷ rest) items → length items ≡ 16 → items_in words ≡ None
too_many words word rest items r e = cond-false _ _ _ (over (length words) 16 (omega (arith, count_read item_in words (word ∷ rest) items r, e)))

pub not_read : (words : List (List ℕ)) (word : List ℕ) (rest : List (List ℕ)) (items : List OrderItem) → EachRead item_in words (word ∷ rest) items → item_in word ≡ None → items_in words ≡ None
not_read words word rest items r none = cond_none _ (each_in item_in words) (one_not_read item_in words word rest items r none)

pub none_there : (words : List (List ℕ)) (items : List OrderItem) → EachRead item_in words [] items → length items ≡ 0 → items_in words ≡ None
none_there words items r e =
    let none : length words ≡ 0 = omega (arith, count_read item_in words [] items r, e) in
    cond-false (nat_le 1 (length words) && nat_le (length words) 16) _ _ (ap (λ (n : ℕ). nat_le 1 n && nat_le n 16) none)

pub items_read : (words : List (List ℕ)) (items : List OrderItem) → EachRead item_in words [] items → 1 ≤ length items → length items ≤ 16 → items_in words ≡ Some items
items_read words items r some few =
    let count : length words ≡ length items = omega (arith, count_read item_in words [] items r) in
    cond-true _ _ _ (within (length words) 16 (omega (arith, count, some)) (omega (arith, count, few))) ∙ all_read item_in words items r
