-- How a history grows behind what was found of it.
use Rattle.std.proofs.Common.{◌≡◌, ℕ, ◌+◌, Bool, true, false, cond, ◌||◌, List, [], ◌∷◌, ◌++◌, length, length-append, drop, refl, sym, ap, subst, ◌∙◌, arith, append_assoc}
use Rattle.std.specs.List.{All, filter, list_any}
use Rattle.std.proofs.lemmas.List.{append_cancel_left}
use Rattle.std.proofs.lemmas.List.Elements.{filter-append, All-append, All-cons, All-nil}
use Rattle.std.proofs.Math.Seq.{drop-append_seam}
use mathlib.Core.List.{IsPrefix}
use Rattle.history.specs.Entry.{Entry, is_of_run}
use Rattle.history.proofs.Pushes.{all_rest}
use Rattle.store_locks.specs.Calls.{IsOfRun}
use Rattle.store_locks.specs.Locked.{RunsOn}

-- the entries behind a beginning are of the run, where what was found begins it
all_back : (xs ys : List Entry) → All (λ e. is_of_run e ≡ true) (xs ++ ys) → All (λ e. is_of_run e ≡ true) ys
all_back [] ys all = all
all_back (x ∷ xs) ys all = all_back xs ys (all_rest (λ (e : Entry). is_of_run e ≡ true) x (xs ++ ys) all)

own_behind : (found xs ys own mine rest : List Entry) → ys ≡ found ++ own → xs ≡ found ++ mine → xs ++ rest ≡ ys → mine ++ rest ≡ own
own_behind found xs ys own mine rest e f g =
    append_cancel_left found (mine ++ rest) own (sym (append_assoc found mine rest) ∙ (ap (λ l. l ++ rest) (sym f) ∙ (g ∙ e)))

pub rest_is_own : (found xs ys : List Entry) (p : IsPrefix xs ys) → RunsOn found xs → RunsOn found ys → All (λ e. is_of_run e ≡ true) p.0
rest_is_own found xs ys p one two =
    all_back one.own p.0 (subst (λ l. All (λ e. is_of_run e ≡ true) l) (sym (own_behind found xs ys two.own one.own p.0 two.all one.all p.1)) two.by)

pub runs_more : (found xs ys : List Entry) (e : Entry) → RunsOn found xs → ys ≡ xs ++ (e ∷ []) → is_of_run e ≡ true → RunsOn found ys
runs_more found xs ys e one grown own = record {
  own = one.own ++ (e ∷ []);
  all = grown ∙ (ap (λ l. l ++ (e ∷ [])) one.all ∙ append_assoc found one.own (e ∷ []));
  by = All-append (λ (e : Entry). is_of_run e ≡ true) one.own (e ∷ []) one.by (All-cons (λ (e : Entry). is_of_run e ≡ true) e [] own (All-nil (λ (e : Entry). is_of_run e ≡ true)));
}

-- a history that goes on by the entries of so many workers alone
abbrev pub RunsBy : ℕ → List Entry → List Entry → Type 0
RunsBy workers found history = (runs : RunsOn found history) × All (IsOfRun workers) runs.own

pub runs_by_more : (workers : ℕ) (found xs ys : List Entry) (e : Entry) → RunsBy workers found xs → ys ≡ xs ++ (e ∷ []) → is_of_run e ≡ true → IsOfRun workers e → RunsBy workers found ys
runs_by_more workers found xs ys e runs grown own of = (
  record {
    own = runs.0.own ++ (e ∷ []);
    all = grown ∙ (ap (λ l. l ++ (e ∷ [])) runs.0.all ∙ append_assoc found runs.0.own (e ∷ []));
    by = All-append (λ (e : Entry). is_of_run e ≡ true) runs.0.own (e ∷ []) runs.0.by (All-cons (λ (e : Entry). is_of_run e ≡ true) e [] own (All-nil (λ (e : Entry). is_of_run e ≡ true)));
  },
  All-append (IsOfRun workers) runs.0.own (e ∷ []) runs.1 (All-cons (IsOfRun workers) e [] of (All-nil (IsOfRun workers))),
)

-- ---- how many pass a test behind what was found

abbrev pub behind_count : (Entry → Bool) → List Entry → List Entry → ℕ
behind_count p found history = length (filter p (drop (length found) history))

pub behind_is : (p : Entry → Bool) (found history own : List Entry) → history ≡ found ++ own → behind_count p found history ≡ length (filter p own)
behind_is p found history own e = ap (λ (l : List Entry). length (filter p l)) (ap (drop (length found)) e ∙ drop-append_seam found own)

count_two : (p : Entry → Bool) (xs ys : List Entry) → length (filter p (xs ++ ys)) ≡ length (filter p xs) + length (filter p ys)
count_two p xs ys = ap (λ (l : List Entry). length l) (filter-append p xs ys) ∙ length-append (filter p xs) (filter p ys)

pub none_of : (p : Entry → Bool) (xs : List Entry) → length (filter p xs) ≡ 0 → list_any p xs ≡ false
none_of p [] e = refl
none_of p (x ∷ xs) e =
    elim (p x) as (λ b. p x ≡ b → length (cond b (x ∷ filter p xs) (filter p xs)) ≡ 0 → (b || list_any p xs) ≡ false) [
      | true ↦ λ is e. absurd (omega (arith, e))
      | false ↦ λ is e. none_of p xs e
    ] refl e

-- where as many pass it behind a beginning as behind the whole, none passes it in what comes between
pub none_between : (p : Entry → Bool) (found xs ys : List Entry) (q : IsPrefix xs ys) → RunsOn found xs → RunsOn found ys → behind_count p found xs ≡ behind_count p found ys → list_any p q.0 ≡ false
none_between p found xs ys q one two same =
    let own = own_behind found xs ys two.own one.own q.0 two.all one.all q.1 in
    none_of p q.0 (omega (arith, same, behind_is p found xs one.own one.all, behind_is p found ys two.own two.all, ap (λ (l : List Entry). length (filter p l)) own, count_two p one.own q.0))

abbrev one_if : Bool → ℕ
one_if true = 1
one_if false = 0

one_counted : (p : Entry → Bool) (e : Entry) → length (filter p (e ∷ [])) ≡ one_if (p e)
one_counted p e =
    elim (p e) as (λ b. length (cond b (e ∷ []) []) ≡ one_if b) [ true ↦ refl | false ↦ refl ]

-- one more that passes it, and one more that doesn't
pub counts_more : (p : Entry → Bool) (found xs ys : List Entry) (e : Entry) → RunsOn found xs → ys ≡ xs ++ (e ∷ []) → p e ≡ true → behind_count p found ys ≡ behind_count p found xs + 1
counts_more p found xs ys e one grown is =
    let whole : ys ≡ found ++ (one.own ++ (e ∷ [])) = grown ∙ (ap (λ l. l ++ (e ∷ [])) one.all ∙ append_assoc found one.own (e ∷ [])) in
    omega (arith, behind_is p found ys (one.own ++ (e ∷ [])) whole, behind_is p found xs one.own one.all, count_two p one.own (e ∷ []), one_counted p e, ap one_if is)

pub counts_same : (p : Entry → Bool) (found xs ys : List Entry) (e : Entry) → RunsOn found xs → ys ≡ xs ++ (e ∷ []) → p e ≡ false → behind_count p found ys ≡ behind_count p found xs
counts_same p found xs ys e one grown is =
    let whole : ys ≡ found ++ (one.own ++ (e ∷ [])) = grown ∙ (ap (λ l. l ++ (e ∷ [])) one.all ∙ append_assoc found one.own (e ∷ [])) in
    omega (arith, behind_is p found ys (one.own ++ (e ∷ [])) whole, behind_is p found xs one.own one.all, count_two p one.own (e ∷ []), one_counted p e, ap one_if is)
