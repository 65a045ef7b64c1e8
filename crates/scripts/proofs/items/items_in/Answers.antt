-- Each word is read behind those before it.
use Rattle.std.proofs.Common.{◌≡◌, ◌≤◌, ◌∷◌, length, subst, sym, ap, ◌∙◌, arith, true, false, length-append, [], ℕ, List, Some}
use Rattle.std.specs.Prelude.{◌==◌}
use Rattle.std.proofs.lemmas.Bool.Decides.{nat_tests}
use Rattle.scripts.specs.Cuts.{words_of}
use Rattle.scripts.specs.Items.{item_in}
use Rattle.scripts.specs.declared.order.OrderItem.{OrderItem}
use Rattle.scripts.proofs.Each.{EachRead, one_read}
use Rattle.scripts.proofs.ItemWords.{too_many, not_read, none_there, items_read}
use Rattle.scripts.proofs.items.items_in.Goals as goal

-- the words behind the read ones are these
at_words : (words rest here : List (List ℕ)) (items : List OrderItem) → EachRead item_in words rest items → rest ≡ here → EachRead item_in words here items
at_words words rest here items r e = subst (λ (ws : List (List ℕ)). EachRead item_in words ws items) e r

is_zero : (n : ℕ) → true ≡ (n == 0) → n ≡ 0
is_zero n e = grind (arith, nat_tests)

not_zero : (n : ℕ) → false ≡ (n == 0) → 1 ≤ n
not_zero n e = grind (arith, nat_tests)

pub returns-then-len-eq-ITEM_LIMIT : goal.returns-then-len-eq-ITEM_LIMIT
returns-then-len-eq-ITEM_LIMIT c =
    sym (too_many (words_of c.args.text.now) c.in-Some.word.now (words_of c.in-Some.behind.now) c.loop-word.list.items
    (at_words _ _ _ _ c.loop-word.invariant.read c.in-Some.ensures) (sym (c.len.ensures ∙ c.loop-word.list.ok.0) ∙ c.if-len-eq-ITEM_LIMIT.true))

pub returns-in_default-2 : goal.returns-in_default-2
returns-in_default-2 c =
    sym (not_read (words_of c.args.text.now) c.in-Some.word.now (words_of c.in-Some.behind.now) c.loop-word.list.items
    (at_words _ _ _ _ c.loop-word.invariant.read c.in-Some.ensures) (sym c.in_ok-item.ensures ∙ c.in_default-2.is))

pub loop-word-preserved : goal.loop-word-preserved
loop-word-preserved c = record {
  read = subst (EachRead item_in (words_of c.args.text.now) (words_of c.in-Some.behind.now)) (sym c.in_ok-push.ensures.items)
      (one_read item_in (words_of c.args.text.now) c.in-Some.word.now (words_of c.in-Some.behind.now) c.loop-word.list.items c.in-Some-2.item
      (at_words _ _ _ _ c.loop-word.invariant.read c.in-Some.ensures) (sym c.in_ok-item.ensures ∙ c.in-Some-2.is));
  few = omega (arith, ap length c.in_ok-push.ensures.items, length-append c.loop-word.list.items (c.in-Some-2.item ∷ []), c.loop-word.invariant.few, c.len.ensures, c.loop-word.list.ok.0, c.if-len-eq-ITEM_LIMIT.false);
}

pub returns-then-is_empty : goal.returns-then-is_empty
returns-then-is_empty c =
    sym (none_there (words_of c.args.text.now) c.loop-word.list.items (at_words _ _ _ _ c.loop-word.invariant.read c.in_default.ensures)
    (sym c.loop-word.list.ok.0 ∙ is_zero _ c.if-is_empty.ensures))

pub returns : goal.returns
returns c =
    let some : 1 ≤ length c.loop-word.list.items = omega (arith, c.loop-word.list.ok.0, not_zero _ c.if-is_empty.ensures) in
    ap Some c.from_vec.ensures
    ∙ sym (items_read (words_of c.args.text.now) c.loop-word.list.items (at_words _ _ _ _ c.loop-word.invariant.read c.in_default.ensures) some c.loop-word.invariant.few)
