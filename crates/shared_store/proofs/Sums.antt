-- Counts by worker that add up.
use Rattle.std.proofs.Common.{◌≡◌, ℕ, ◌+◌, ◌<◌, ◌≤◌, Bool, true, false, ◌&&◌, not, List, [], ◌∷◌, length, refl, ap, subst, arith}
use Rattle.std.specs.Prelude.{◌==◌, Option, Some, None}
use Rattle.std.specs.Option.{is_some}
use Rattle.std.specs.List.{All, sum_by, filter}
use Rattle.std.proofs.lemmas.Bool.{eqb-true}
use Rattle.std.proofs.lemmas.List.Sums.{sum_by-cons}
use Rattle.std.proofs.lemmas.List.Elements.{All-nil, All-cons}
use Rattle.history.proofs.Pushes.{all_first, all_rest}
use Rattle.history.specs.Entry.{Entry, is_of_run}
use Rattle.store_locks.specs.Seen.{Seen, is_by, is_mark_by, is_number, accepted_by, marks_by}
use Rattle.store_locks.specs.Locked.{AllHeld, gathered, AreNumbered, made_in}
use Rattle.shared_store.specs.Shared.{CountsItsOwn, CountsNoMore}
use Rattle.store_locks.proofs.Tallies.{one_if, kept_first}

module _ {X : Type 0} where
  first_of : (P : X → Type 0) (x : X) (xs : List X) → All P (x ∷ xs) → P x
  first_of P x xs all = all_first P x xs all

  rest_of : (P : X → Type 0) (x : X) (xs : List X) → All P (x ∷ xs) → All P xs
  rest_of P x xs all = all_rest P x xs all

  sum_least : (f g : X → ℕ) (xs : List X) → All (λ x. f x ≤ g x) xs → sum_by f xs ≤ sum_by g xs
  sum_least f g [] all = omega arith
  sum_least f g (x ∷ xs) all =
      omega (arith, sum_by-cons f x xs, sum_by-cons g x xs, first_of (λ x. f x ≤ g x) x xs all, sum_least f g xs (rest_of (λ x. f x ≤ g x) x xs all))

  -- no term above, and equal sums: equal terms
  pub equal_terms : (f g : X → ℕ) (xs : List X) → All (λ x. f x ≤ g x) xs → sum_by f xs ≡ sum_by g xs → All (λ x. f x ≡ g x) xs
  equal_terms f g [] all e = All-nil (λ x. f x ≡ g x)
  equal_terms f g (x ∷ xs) all e =
      let first : f x ≤ g x = first_of (λ x. f x ≤ g x) x xs all in
      let rest = rest_of (λ x. f x ≤ g x) x xs all in
      let least = sum_least f g xs rest in
      All-cons (λ x. f x ≡ g x) x xs (omega (arith, sum_by-cons f x xs, sum_by-cons g x xs, first, least, e)) (equal_terms f g xs rest (omega (arith, sum_by-cons f x xs, sum_by-cons g x xs, first, least, e)))

-- ---- the entries of workers

-- an entry that a worker made is its command or its mark
one_kind : (a b : Bool) → one_if (a && b) + one_if (a && not b) ≡ one_if a
one_kind true true = refl
one_kind true false = refl
one_kind false true = refl
one_kind false false = refl

abbrev is_its : ℕ → Entry → Bool
is_its worker entry = is_number worker entry.worker

kinds_add : (w : ℕ) (history : List Entry) → length (accepted_by w history) + length (marks_by w history) ≡ length (filter (is_its w) history)
kinds_add w [] = refl
kinds_add w (e ∷ es) =
    omega (arith, kept_first (is_by w) e es, kept_first (is_mark_by w) e es, kept_first (is_its w) e es, one_kind (is_its w e) (is_some e.seq), kinds_add w es)

abbrev hits : Option ℕ → List Seen → ℕ
hits made passes = sum_by (λ (p : Seen). one_if (is_number p.worker made)) passes

no_hits : (passes : List Seen) → hits None passes ≡ 0
no_hits [] = refl
no_hits (p ∷ passes) = omega (arith, sum_by-cons (λ (q : Seen). one_if (is_number q.worker None)) p passes, no_hits passes)

-- of workers that are numbered one at most has a number, and none a lower one than the first
few_hits : (n m : ℕ) (passes : List Seen) → AreNumbered (λ (p : Seen). p.worker) n passes → (hits (Some m) passes ≤ 1) × (m < n → hits (Some m) passes ≡ 0)
few_hits n m [] are = (omega arith, λ lt. refl)
few_hits n m (p ∷ passes) are =
    let rest = few_hits (n + 1) m passes are.1 in
    let cons = sum_by-cons (λ (q : Seen). one_if (is_number q.worker (Some m))) p passes in
    elim (m == p.worker) as (λ b. (m == p.worker) ≡ b → (hits (Some m) (p ∷ passes) ≤ 1) × (m < n → hits (Some m) (p ∷ passes) ≡ 0)) [
      | true ↦ λ is.
          let same : m ≡ p.worker = eqb-true m p.worker is in
          let one : one_if (is_number p.worker (Some m)) ≡ one_if true = ap one_if is in (
            omega (arith, cons, one, rest.1 (omega (arith, same, are.0))),
            λ lt. absurd (omega (arith, lt, same, are.0)),
          )
      | false ↦ λ is.
          let none : one_if (is_number p.worker (Some m)) ≡ one_if false = ap one_if is in (
            omega (arith, cons, none, rest.0),
            λ lt. omega (arith, cons, none, rest.1 (omega (arith, lt))),
          )
    ] refl

one_hit : (made : Option ℕ) (passes : List Seen) → AreNumbered (λ (p : Seen). p.worker) 0 passes → hits made passes ≤ one_if (is_some made)
one_hit None passes are = omega (arith, no_hits passes)
one_hit (Some m) passes are = (few_hits 0 m passes are).0

abbrev theirs : List Entry → List Seen → ℕ
theirs history passes = sum_by (λ (p : Seen). length (filter (is_its p.worker) history)) passes

none_theirs : (passes : List Seen) → theirs [] passes ≡ 0
none_theirs [] = refl
none_theirs (p ∷ passes) = omega (arith, sum_by-cons (λ (q : Seen). length (filter (is_its q.worker) [])) p passes, none_theirs passes)

theirs_first : (e : Entry) (es : List Entry) (passes : List Seen) → theirs (e ∷ es) passes ≡ hits e.worker passes + theirs es passes
theirs_first e es [] = refl
theirs_first e es (p ∷ passes) =
    omega (
      arith,
      sum_by-cons (λ (q : Seen). length (filter (is_its q.worker) (e ∷ es))) p passes,
      sum_by-cons (λ (q : Seen). length (filter (is_its q.worker) es)) p passes,
      sum_by-cons (λ (q : Seen). one_if (is_number q.worker e.worker)) p passes,
      kept_first (is_its p.worker) e es,
      theirs_first e es passes,
    )

-- numbered workers have no more entries than workers made
pub theirs_within : (history : List Entry) (passes : List Seen) → AreNumbered (λ (p : Seen). p.worker) 0 passes → theirs history passes ≤ length (made_in history)
theirs_within [] passes are = omega (arith, none_theirs passes)
theirs_within (e ∷ es) passes are = omega (arith, theirs_first e es passes, one_hit e.worker passes are, theirs_within es passes are, kept_first is_of_run e es)

both_terms : (history : List Entry) (passes : List Seen) → sum_by (λ (p : Seen). length (accepted_by p.worker history) + length (marks_by p.worker history)) passes ≡ theirs history passes
both_terms history [] = refl
both_terms history (p ∷ passes) =
    omega (arith, sum_by-cons (λ (q : Seen). length (accepted_by q.worker history) + length (marks_by q.worker history)) p passes, sum_by-cons (λ (q : Seen). length (filter (is_its q.worker) history)) p passes, kinds_add p.worker history, both_terms history passes)

within_both : (history : List Entry) (passes : List Seen) → All (CountsNoMore history) passes → All (λ (p : Seen). p.accepted + p.marks ≤ length (accepted_by p.worker history) + length (marks_by p.worker history)) passes
within_both history [] all = All-nil (λ (p : Seen). p.accepted + p.marks ≤ length (accepted_by p.worker history) + length (marks_by p.worker history))
within_both history (p ∷ passes) all =
    let first = first_of (CountsNoMore history) p passes all in
    All-cons (λ (p : Seen). p.accepted + p.marks ≤ length (accepted_by p.worker history) + length (marks_by p.worker history)) p passes
    (omega (arith, first.commands, first.marks)) (within_both history passes (rest_of (CountsNoMore history) p passes all))

just_theirs : (history : List Entry) (passes : List Seen) → All (CountsNoMore history) passes → All (λ (p : Seen). p.accepted + p.marks ≡ length (accepted_by p.worker history) + length (marks_by p.worker history)) passes → All (CountsItsOwn history) passes
just_theirs history [] within same = All-nil (CountsItsOwn history)
just_theirs history (p ∷ passes) within same =
    let less = first_of (CountsNoMore history) p passes within in
    let sum = first_of (λ (p : Seen). p.accepted + p.marks ≡ length (accepted_by p.worker history) + length (marks_by p.worker history)) p passes same in
    All-cons (CountsItsOwn history) p passes
    (record { commands = omega (arith, less.commands, less.marks, sum); marks = omega (arith, less.commands, less.marks, sum) })
    (just_theirs history passes (rest_of (CountsNoMore history) p passes within)
    (rest_of (λ (p : Seen). p.accepted + p.marks ≡ length (accepted_by p.worker history) + length (marks_by p.worker history)) p passes same))

-- each pass counted just its worker's entries, where all together are as many as workers made
pub just_counted : (passes : List Seen) (history : List Entry) → AreNumbered (λ (p : Seen). p.worker) 0 passes → All (CountsNoMore history) passes → sum_by (λ (p : Seen). p.accepted + p.marks) passes ≡ length (made_in history) → All (CountsItsOwn history) passes
just_counted passes history order within all =
    let f : Seen → ℕ = λ p. p.accepted + p.marks in
    let g : Seen → ℕ = λ p. length (accepted_by p.worker history) + length (marks_by p.worker history) in
    let less = within_both history passes within in
    let most = sum_least f g passes less in
    just_theirs history passes within
    (equal_terms f g passes less (omega (arith, most, both_terms history passes, theirs_within history passes order, all)))

-- so of the passes that are given back
pub settled : (passes : List Seen) (history behind mid : List Entry) (before total : ℕ) → total ≡ length (made_in behind) → AreNumbered (λ (p : Seen). p.worker) 0 passes → behind ≡ mid → mid ≡ history
    → All (CountsNoMore mid) passes → total ≡ before + sum_by (λ (p : Seen). p.accepted + p.marks) passes → before ≡ 0 → All (CountsItsOwn history) passes
settled passes history behind mid before total made order one two within sums none =
    subst (λ (h : List Entry). All (CountsItsOwn h) passes) two
    (just_counted passes mid order within (omega (arith, sums, none, made, ap (λ (h : List Entry). length (made_in h)) one)))

-- ---- the shares of all workers

pub gathered_parts : (all : AllHeld) (passes : List Seen) → (gathered all passes).parts ≡ all.parts + length passes
gathered_parts all [] = omega arith
gathered_parts all (p ∷ passes) = omega (arith, gathered_parts all passes)

pub gathered_made : (all : AllHeld) (passes : List Seen) → (gathered all passes).made ≡ all.made + sum_by (λ (p : Seen). p.accepted + p.marks) passes
gathered_made all [] = omega arith
gathered_made all (p ∷ passes) = omega (arith, gathered_made all passes, sum_by-cons (λ (q : Seen). q.accepted + q.marks) p passes)
