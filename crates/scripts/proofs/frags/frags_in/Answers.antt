-- Each piece is read behind those before it.
use Rattle.std.proofs.Common.{◌≡◌, ◌+◌, ◌∷◌, length, drop, subst, sym, ap, ◌∙◌, arith, rules, tests, [], ℕ, List, Option, Some, None}
use Rattle.std.specs.Iterator.{Yields}
use Rattle.std.specs.Slice.Iter as slice
use Rattle.std.proofs.lemmas.List.{length_push, drop_all}
use Rattle.std.proofs.lemmas.Iterator.{YieldsList}
use Rattle.std.proofs.lemmas.Iterator.Splits.{YieldsList-from_slice_split}
use Rattle.std.proofs.lemmas.Iterator.Consumers.{YieldsList-turn, YieldsList-end}
use denote.Ref.{Bor}
use Rattle.pg_page.specs.Frags.{Fragment}
use Rattle.scripts.specs.Items.{frag_in, is_comma}
use Rattle.scripts.proofs.Each.{EachRead, one_read, one_not_read, all_read, from_here}
use Rattle.scripts.proofs.frags.frags_in.Goals as goal

-- the pieces behind those that were read, at a turn of the loop and at its end
turned : {S : Type 0} {steps : S → Option (Bor (List ℕ)) → S → Type 0} {s : S} {pieces : List (List ℕ)} (items : List Fragment) (xs : List (Bor (List ℕ))) (t : S) → Yields steps s xs t
    → EachRead frag_in pieces (drop (length xs) pieces) items → (r : Option (Bor (List ℕ))) (u : S) (x : Bor (List ℕ)) → r ≡ Some x → steps t r u → YieldsList steps (λ y. y.now) s pieces
    → EachRead frag_in pieces (x.now ∷ drop (length xs + 1) pieces) items
turned {pieces = pieces} items xs t y read r u x is step road = subst (λ (ps : List (List ℕ)). EachRead frag_in pieces ps items) (from_here pieces (length xs) x.now (YieldsList-turn road xs t y r u x is step)) read

ended : {S : Type 0} {steps : S → Option (Bor (List ℕ)) → S → Type 0} {s : S} {pieces : List (List ℕ)} (items : List Fragment) (xs : List (Bor (List ℕ))) (t : S) → Yields steps s xs t
    → EachRead frag_in pieces (drop (length xs) pieces) items → (r : Option (Bor (List ℕ))) (u : S) → r ≡ None → steps t r u → YieldsList steps (λ y. y.now) s pieces
    → EachRead frag_in pieces [] items
ended {pieces = pieces} items xs t y read r u is step road =
    let all = YieldsList-end road xs t y r u is step in
    subst (λ (ps : List (List ℕ)). EachRead frag_in pieces ps items) (drop_all (length xs) pieces (omega (arith, all.1))) read

pub returns-in_default : goal.returns-in_default
returns-in_default c =
    let whole = c.into_iter-piece-iterator.ensures.into_iter_gives in
    let here = turned c.loop-piece.list.items c.loop-piece.yielded _ c.loop-piece.yielded_by c.loop-piece.invariant.read _ _ c.in-Some.piece c.in-Some.is c.next.ensures.steps
    (YieldsList-from_slice_split _ is_comma c.args.text.now (ap slice.split_rest whole ∙ c.split-piece-items.ensures.rest) (ap slice.split_done whole ∙ c.split-piece-items.ensures.done)
    (ap slice.split_callee whole ∙ c.split-piece-items.ensures.closure) (λ x b q called. search (rules, tests))) in
    sym (one_not_read frag_in _ c.in-Some.piece.now _ c.loop-piece.list.items here (sym c.in_ok-frag.ensures ∙ c.in_default.is))

pub loop-piece-preserved : goal.loop-piece-preserved
loop-piece-preserved c =
    let whole = c.into_iter-piece-iterator.ensures.into_iter_gives in
    let here = turned c.loop-piece.list.items c.loop-piece.yielded _ c.loop-piece.yielded_by c.loop-piece.invariant.read _ _ c.in-Some.piece c.in-Some.is c.next.ensures.steps
    (YieldsList-from_slice_split _ is_comma c.args.text.now (ap slice.split_rest whole ∙ c.split-piece-items.ensures.rest) (ap slice.split_done whole ∙ c.split-piece-items.ensures.done)
    (ap slice.split_callee whole ∙ c.split-piece-items.ensures.closure) (λ x b q called. search (rules, tests))) in
    record {
      can_next = search rules;
      is_finite = search rules;
      read = rw (c.in_ok-push.ensures.items, length_push c.loop-piece.yielded c.in-Some.piece)
          (one_read frag_in _ c.in-Some.piece.now _ c.loop-piece.list.items c.in-Some-2.frag here (sym c.in_ok-frag.ensures ∙ c.in-Some-2.is));
    }

pub returns : goal.returns
returns c =
    let whole = c.into_iter-piece-iterator.ensures.into_iter_gives in
    let end = ended c.loop-piece.list.items c.loop-piece.yielded _ c.loop-piece.yielded_by c.loop-piece.invariant.read _ _ c.in-None.is c.next.ensures.steps
    (YieldsList-from_slice_split _ is_comma c.args.text.now (ap slice.split_rest whole ∙ c.split-piece-items.ensures.rest) (ap slice.split_done whole ∙ c.split-piece-items.ensures.done)
    (ap slice.split_callee whole ∙ c.split-piece-items.ensures.closure) (λ x b q called. search (rules, tests))) in
    ap Some c.from_vec.ensures ∙ sym (all_read frag_in _ c.loop-piece.list.items end)
