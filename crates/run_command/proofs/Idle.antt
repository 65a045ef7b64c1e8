-- A run of no worker makes no entry.
use Rattle.std.proofs.Common.{◌≡◌, ℕ, zero, suc, ◌<◌, Bool, true, ◌&&◌, not, List, [], ◌∷◌, ◌++◌, length, length-append, Option, Some, None, refl, sym, ap, ◌∙◌, arith, inl, inr}
use Rattle.std.specs.Option.{is_some}
use Rattle.std.specs.List.{All, filter}
use Rattle.std.proofs.lemmas.Bool.{eq-eqb}
use Rattle.std.proofs.lemmas.List.Elements.{All-nil, filter-append}
use Rattle.history.specs.Entry.{Entry}
use Rattle.store_locks.specs.Calls.{IsMarkBy, IsOfRun, IsOfWorker}
use Rattle.store_locks.specs.Seen.{accepted_by, is_by, is_mark_by, is_number, marks_by}
use Rattle.store_locks.proofs.Tallies.{kept_first, one_if}

-- a worker that made neither commands nor marks has no entry
by_none : (e : Entry) (found es : List Entry) (p : Entry → Bool) → p e ≡ true → length (filter p (found ++ (e ∷ es))) ≡ 0 → ⊥
by_none e found es p is none =
    let one : one_if (p e) ≡ one_if true = ap one_if is in
    absurd (omega (arith, none, ap (λ (l : List Entry). length l) (filter-append p found (e ∷ es)), length-append (filter p found) (filter p (e ∷ es)), kept_first p e es, one))

marked_by : (a b : Option ℕ) (worker : ℕ) → a ≡ Some worker → b ≡ None → (is_number worker a && not (is_some b)) ≡ true
marked_by a b worker e f = rw (e, f, eq-eqb worker worker refl) refl

its_mark : (w : ℕ) (e : Entry) → IsMarkBy w e → is_mark_by w e ≡ true
its_mark w e (inl is) = marked_by e.worker e.seq w is.1 is.2
its_mark w e (inr (inl x)) = marked_by e.worker e.seq w x.1.1 x.1.2
its_mark w e (inr (inr x)) = marked_by e.worker e.seq w x.1.1 x.1.2

of_first : (e : Entry) (found es : List Entry) (w : ℕ) → w < 1 → IsOfWorker w e → length (accepted_by 0 (found ++ (e ∷ es))) ≡ 0 → length (marks_by 0 (found ++ (e ∷ es))) ≡ 0 → ⊥
of_first e found es (suc w) lt of commands marks = absurd (omega (arith, lt))
of_first e found es zero lt (inl is) commands marks = by_none e found es (is_by 0) is commands
of_first e found es zero lt (inr mark) commands marks = by_none e found es (is_mark_by 0) (its_mark 0 e mark) marks

pub none_own : (found own history : List Entry) → history ≡ found ++ own → All (IsOfRun 1) own → length (accepted_by 0 history) ≡ 0 → length (marks_by 0 history) ≡ 0 → All (IsOfRun 0) own
none_own found [] history grown of commands marks = All-nil (IsOfRun 0)
none_own found (e ∷ es) history grown of commands marks =
    let is = of 0 e (omega arith) in
    absurd (of_first e found es is.0 is.1 is.2 (ap (λ (l : List Entry). length (accepted_by 0 l)) (sym grown) ∙ commands) (ap (λ (l : List Entry). length (marks_by 0 l)) (sym grown) ∙ marks))
