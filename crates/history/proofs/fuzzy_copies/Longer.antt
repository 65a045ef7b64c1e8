-- A sound copy stays sound when entries are added.
use Rattle.std.proofs.Common.{◌≡◌, ℕ, ◌<◌, ◌≤◌, true, false, cond, ◌&&◌, List, [], ◌∷◌, ◌++◌, refl, sym, ap, subst, ◌∙◌, arith}
use Rattle.std.specs.Prelude.{◌==◌, nat_lt, nat_le}
use Rattle.std.specs.List.{list_any, filter}
use Rattle.std.proofs.lemmas.List.{append-nil}
use Rattle.std.proofs.lemmas.List.Elements.{filter-append}
use Rattle.std.proofs.lemmas.List.Folds.{list_any-append}
use Rattle.std.proofs.lemmas.Bool.{eqb-true, ltb-true, le-ltb, and_parts, or_left}
use Rattle.std.specs.FinMap.{empty}
use Rattle.history.specs.Entry.{Entry}
use Rattle.history.specs.Apply.{apply_all}
use Rattle.history.specs.fuzzy_copies.Touches.{resets, settles}
use Rattle.history.specs.fuzzy_copies.Orderly.{IsOrderly}
use Rattle.history.specs.fuzzy_copies.Sound.{window, is_in}
use Rattle.history.specs.fuzzy_copies.Laws.{SoundCopiesStaySound}
use Rattle.history.proofs.fuzzy_copies.Completed.{or_second}
use Rattle.history.proofs.fuzzy_copies.Ranges.{and_false, first_of_lists}
use Rattle.history.proofs.fuzzy_copies.Taken.{Later, rest_rising, none_early}

-- what is added behind an entry's end starts there or later
added_late : (to last : ℕ) (history more : List Entry) → IsOrderly last (history ++ more) → list_any (λ e. e.end == to) history ≡ true → Later to more
added_late to last [] more r h = absurd cc
added_late to last (e ∷ es) more r h =
    elim (e.end == to) as (λ b. (e.end == to) ≡ b → Later to more) [
      | true ↦ λ k. let i : e.end ≡ to = eqb-true e.end to k in let l = rest_rising e.end es more r.3 in record { at = l.at; later = (let a = l.later in omega arith); orderly = l.orderly }
      | false ↦ λ k. added_late to e.end es more r.3 (or_second (e.end == to) (list_any (λ d. d.end == to) es) h k)
    ] refl

none_within : (from to last : ℕ) (es : List Entry) → IsOrderly last es → to ≤ last → window es from to ≡ []
none_within from to last [] r h = refl
none_within from to last (e ∷ es) r h =
    let out : is_in from to e ≡ false = ap (λ b. nat_le from e.start && b) (le-ltb e.start to (let a = r.0 in omega arith)) ∙ and_false (nat_le from e.start) in
    ap (λ b. cond b (e ∷ window es from to) (window es from to)) out ∙ none_within from to e.end es r.3 (let a = r.0 in let b = r.1 in omega arith)

member_late : (last : ℕ) (before : List Entry) (e : Entry) (later : List Entry) → IsOrderly last (before ++ (e ∷ later)) → last ≤ e.start
member_late last [] e later r = r.0
member_late last (x ∷ before) e later r = let k = member_late x.end before e later r.3 in let a = r.0 in let b = r.1 in omega arith

-- an entry that starts before the added ones stands in the history
in_front : (to : ℕ) (history more before : List Entry) (e : Entry) (later : List Entry) → Later to more → history ++ more ≡ before ++ (e ∷ later) → e.start < to → (rest : List Entry) × (history ≡ before ++ (e ∷ rest))
in_front to [] more before e later l is early = absurd (let k = member_late l.at before e later (subst (IsOrderly l.at) is l.orderly) in let a = l.later in omega arith)
in_front to (x ∷ history) more [] e later l is early = (history, ap (λ (d : Entry). d ∷ history) (first_of_lists x e (history ++ more) later is).0)
in_front to (x ∷ history) more (y ∷ before) e later l is early =
    let p = first_of_lists x y (history ++ more) (before ++ (e ∷ later)) is in
    let f = in_front to history more before e later l p.1 early in
    (f.0, ap (λ (d : Entry). d ∷ history) p.0 ∙ ap (λ (es : List Entry). y ∷ es) f.1)

pub sound_later : SoundCopiesStaySound
sound_later copy history more from to r sound =
    let l = added_late to 0 history more r sound.ends in
    let same : window (history ++ more) from to ≡ window history from to = filter-append (is_in from to) history more ∙ ap (λ (es : List Entry). window history from to ++ es) (none_within from to l.at more l.orderly l.later) ∙ append-nil (window history from to) in
    record {
      base = sound.base;
      defined = ap (apply_all empty) (filter-append (λ e. nat_lt e.start from) history more
          ∙ ap (λ (es : List Entry). filter (λ e. nat_lt e.start from) history ++ es) (none_early from l.at more l.orderly (let a = sound.above in let b = l.later in omega arith)) ∙ append-nil (filter (λ e. nat_lt e.start from) history)) ∙ sound.defined;
      blocks = λ fork block none. sound.blocks fork block (sym (ap (list_any (resets fork block)) same) ∙ none);
      forks = λ fork none. sound.forks fork (sym (ap (list_any (settles fork)) same) ∙ none);
      deltas = λ fork block before e later is within delta.
          let f = in_front to history more before e later l is (ltb-true e.start to (and_parts (nat_le from e.start) (nat_lt e.start to) within).1) in
          sound.deltas fork block before e f.0 f.1 within delta;
      starts = list_any-append (λ e. e.start == from) history more ∙ or_left (list_any (λ e. e.start == from) history) _ sound.starts;
      ends = list_any-append (λ e. e.end == to) history more ∙ or_left (list_any (λ e. e.end == to) history) _ sound.ends;
      above = sound.above;
    }
