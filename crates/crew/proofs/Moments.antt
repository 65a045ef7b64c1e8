-- Answers are facts of a beginning of a history: what was seen when they were given. So they hold of every history that goes on from
-- there.
use Rattle.std.proofs.Common.{◌≡◌, ℕ, ◌+◌, ◌<◌, ◌≤◌, Bool, Some, List, [], ◌∷◌, ◌++◌, length, take, refl, ap, sym, subst, ◌∙◌, arith, append_assoc, append-nil}
use Rattle.std.proofs.lemmas.Option.{slice_get_within}
use Rattle.std.proofs.lemmas.List.{take_all}
use mathlib.Core.List.{IsPrefix}
use Rattle.history.specs.declared.op.Op.{Op}
use Rattle.history.specs.Entry.{Entry}
use Rattle.vault.specs.Site.{Areas}
use Rattle.store_locks.specs.Seen.{accepted_by}
use Rattle.scripts.specs.declared.script.Line.{Line}
use Rattle.run_answers.specs.declared.answer.Answer.{Answer}
use Rattle.crew.specs.Run.{Basis, IsMade, IsTakenAt, Made, LineAnswer, Answered, InOrder}
use Rattle.run_answers.specs.Stopping.{is_not_run, stops_with}
use Rattle.crew.proofs.Lists.{prefix_length, prefix_get, prefix_take}

-- ---- entries

made_there : (tells : Type 0) (mib w : ℕ) (g : List Entry) (i : ℕ) (op : Op) (e : Entry) → IsMade tells mib w g i op e → i < length g
made_there tells mib w g i op e m = slice_get_within g i e m.there

one_later : (tells : Type 0) (mib w : ℕ) (g h : List Entry) (i : ℕ) (op : Op) (e : Entry) → IsPrefix g h → IsMade tells mib w g i op e → IsMade tells mib w h i op e
one_later tells mib w g h i op e p m =
    let same : take i h ≡ take i g = prefix_take g h i p (omega (arith, made_there tells mib w g i op e m)) in
    record {
      there = prefix_get g h i e p m.there;
      act = m.act;
      by = m.by;
      seq = m.seq ∙ ap (λ (xs : List Entry). Some (length (accepted_by w xs))) (sym same);
      told = λ t. subst (λ (xs : List Entry). IsTakenAt mib xs op e) (sym same) (m.told t);
    }

pub made_later : (tells : Type 0) (mib w : ℕ) (g h : List Entry) (from : ℕ) (ops : List Op) (es : List Entry) → IsPrefix g h → Made tells mib w g from ops es → Made tells mib w h from ops es
made_later tells mib w g h from [] [] p m = omega (arith, m, prefix_length g h p)
made_later tells mib w g h from [] (e ∷ es) p m = absurd m
made_later tells mib w g h from (op ∷ ops) [] p m = absurd m
made_later tells mib w g h from (op ∷ ops) (e ∷ es) p m = (m.0, m.1, one_later tells mib w g h m.0 op e p m.2, made_later tells mib w g h (m.0 + 1) ops es p m.3)

-- one more behind all that were seen
pub made_on : (tells : Type 0) (mib w : ℕ) (g h : List Entry) (from i : ℕ) (ops : List Op) (es : List Entry) (op : Op) (e : Entry) → IsPrefix g h → length g ≤ i → IsMade tells mib w h i op e → Made tells mib w g from ops es
    → Made tells mib w h from (ops ++ (op ∷ [])) (es ++ (e ∷ []))
made_on tells mib w g h from i [] [] op e p past one m = (i, omega (arith, m, past), one, omega (arith, made_there tells mib w h i op e one))
made_on tells mib w g h from i [] (x ∷ es) op e p past one m = absurd m
made_on tells mib w g h from i (o ∷ ops) [] op e p past one m = absurd m
made_on tells mib w g h from i (o ∷ ops) (x ∷ es) op e p past one m = (m.0, m.1, one_later tells mib w g h m.0 o x p m.2, made_on tells mib w g h (m.0 + 1) i ops es op e p past one m.3)

-- ---- lines

pub answered_later : (tells : Type 0) (b : Basis) (w : ℕ) (g h : List Entry) (from : ℕ) (lines : List Line) (answers : List Answer) (es : List Entry) (to : ℕ) (held new : Areas) → IsPrefix g h → Answered tells b w g from lines answers es to held new
    → Answered tells b w h from lines answers es to held new
answered_later tells b w g h from [] [] es to held new p a = a
answered_later tells b w g h from [] (x ∷ answers) es to held new p a = absurd a
answered_later tells b w g h from (l ∷ lines) [] es to held new p a = absurd a
answered_later tells b w g h from (l ∷ lines) (x ∷ answers) es to held new p a = (
  a.0,
  a.1,
  a.2,
  a.3,
  a.4,
  omega (arith, a.5, prefix_length g h p),
  a.6,
  subst (λ (xs : List Entry). LineAnswer tells b w from xs l.command x a.1 held a.3) (sym (prefix_take g h a.0 p a.5)) a.7,
  answered_later tells b w g h a.0 lines answers a.2 to a.3 new p a.8,
)

answered_on : (tells : Type 0) (b : Basis) (w : ℕ) (h : List Entry) (from : ℕ) (lines : List Line) (answers : List Answer) (es : List Entry) (to next : ℕ) (l : Line) (x : Answer) (here : List Entry) (held new last : Areas) → to ≤ next → next ≤ length h
    → LineAnswer tells b w to (take next h) l.command x here new last → Answered tells b w h from lines answers es to held new
    → Answered tells b w h from (lines ++ (l ∷ [])) (answers ++ (x ∷ [])) (es ++ here) next held last
answered_on tells b w h from [] [] es to next l x here held new last le within is a =
    let made : es ++ here ≡ here ++ [] = ap (λ (xs : List Entry). xs ++ here) a.0 ∙ sym (append-nil here) in
    let moved : LineAnswer tells b w from (take next h) l.command x here new last = subst (λ (n : ℕ). LineAnswer tells b w n (take next h) l.command x here new last) (sym a.1) is in
    (next, here, [], last, omega (arith, a.1, le), within, made, subst (λ (f : Areas). LineAnswer tells b w from (take next h) l.command x here f last) a.2 moved, (refl, refl, refl))
answered_on tells b w h from [] (y ∷ answers) es to next l x here held new last le within is a = absurd a
answered_on tells b w h from (k ∷ lines) [] es to next l x here held new last le within is a = absurd a
answered_on tells b w h from (k ∷ lines) (y ∷ answers) es to next l x here held new last le within is a =
    let made : es ++ here ≡ a.1 ++ (a.2 ++ here) = ap (λ (xs : List Entry). xs ++ here) a.6 ∙ append_assoc a.1 a.2 here in
    (a.0, a.1, a.2 ++ here, a.3, a.4, a.5, made, a.7, answered_on tells b w h a.0 lines answers a.2 to next l x here a.3 new last le within is a.8)

-- one more line, on all that is seen now
pub answered_more : (tells : Type 0) (b : Basis) (w : ℕ) (g h : List Entry) (from : ℕ) (lines : List Line) (answers : List Answer) (es : List Entry) (l : Line) (x : Answer) (here : List Entry) (held new last : Areas) → IsPrefix g h
    → LineAnswer tells b w (length g) h l.command x here new last → Answered tells b w g from lines answers es (length g) held new
    → Answered tells b w h from (lines ++ (l ∷ [])) (answers ++ (x ∷ [])) (es ++ here) (length h) held last
answered_more tells b w g h from lines answers es l x here held new last p is a =
    let all : take (length h) h ≡ h = take_all (length h) h (omega arith) in
    answered_on tells b w h from lines answers es (length g) (length h) l x here held new last (prefix_length g h p) (omega arith)
    (subst (λ (xs : List Entry). LineAnswer tells b w (length g) xs l.command x here new last) (sym all) is)
    (answered_later tells b w g h from lines answers es (length g) held new p a)

-- ---- which lines are run

-- whether the worker is stopped behind answers
abbrev pub stopped_by : Bool → List Answer → Bool
stopped_by stopped [] = stopped
stopped_by stopped (answer ∷ answers) = stopped_by (stops_with answer) answers

pub order_more : (stopped : Bool) (answers : List Answer) (x : Answer) → InOrder stopped answers → is_not_run x ≡ stopped_by stopped answers → InOrder stopped (answers ++ (x ∷ []))
order_more stopped [] x o e = (e, tt)
order_more stopped (y ∷ answers) x o e = (o.0, order_more (stops_with y) answers x o.1 e)

pub stopped_more : (stopped : Bool) (answers : List Answer) (x : Answer) → stopped_by stopped (answers ++ (x ∷ [])) ≡ stops_with x
stopped_more stopped [] x = refl
stopped_more stopped (y ∷ answers) x = stopped_more (stops_with y) answers x
