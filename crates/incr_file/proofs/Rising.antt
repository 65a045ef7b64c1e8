-- Rising numbers, and those of them that stand in a range.
use Rattle.std.proofs.Common.{◌≡◌, ℕ, zero, suc, ◌+◌, ◌-◌, ◌<◌, ◌≤◌, ◌&&◌, Bool, true, false, cond, List, [], ◌∷◌, map, length, take, drop, get_or, Some, None, Result, Ok, Err, IsTrue, refl, sym, ap, arith, inl, inr}
use Rattle.std.specs.Prelude.{nat_lt, nat_le, ◌==◌}
use Rattle.std.specs.List.{filter, All, IsAllAdjacentAnswer, position, position_or_len}
use Rattle.std.specs.List.Sorted.{IsStrictlyIncreasing, IsNonDecreasingBy, IsPartitionPoint, IsBinarySearchResult}
use Rattle.std.specs.Ordering.{nat_cmp}
use Rattle.std.specs.Result.{MatchResult}
use Rattle.std.proofs.lemmas.Bool.{cases_lt, ltb-true, ltb-false, lt-ltb, le-ltb, le-leb, lt-leb, leb-true, eq-eqb, ne_eqb, and_parts}
use Rattle.std.proofs.lemmas.List.{length-map, get_or-map}
use Rattle.std.proofs.lemmas.List.Elements.{filter_passes}
use Rattle.std.proofs.lemmas.List.Kept.{AllPairs-from_increasing}
use Rattle.std.proofs.lemmas.List.Sorted.{searched}
use Rattle.std.proofs.lemmas.List.Sums.{position_or_len_is}

-- what a test of neighbours answers
pub rising_answer : (xs : List ℕ) (r : Bool) → IsAllAdjacentAnswer (λ x y b. b ≡ nat_lt x y) xs r → (IsTrue r → IsStrictlyIncreasing xs) × (IsStrictlyIncreasing xs → IsTrue r)
rising_answer xs true h = (λ t k within. ltb-true _ _ (sym (h k 0 within)), λ up. refl)
rising_answer xs false h =
    (λ t. absurd cc, λ up. let fall = ltb-false (get_or xs h.0 0) (get_or xs (h.0 + 1) 0) (sym (h.2 0)) in absurd (omega (arith, up h.0 h.1)))

-- rising numbers don't fall
pub non_falling : (xs : List ℕ) → IsStrictlyIncreasing xs → IsNonDecreasingBy (λ x. x) xs
non_falling xs up i j d le within =
    elim (cases_lt i j) [
      | inl lt ↦ omega (arith, AllPairs-from_increasing xs up i j d lt within)
      | inr ge ↦ let same : i ≡ j = omega arith in let e : get_or xs i d ≡ get_or xs j d = ap (λ (k : ℕ). get_or xs k d) same in omega arith
    ]

-- each is as great as its place, counted from a least one
at_least_place : (xs : List ℕ) (least : ℕ) → IsStrictlyIncreasing xs → All (λ x. least ≤ x) xs → (k : ℕ) → k < length xs → least + k ≤ get_or xs k 0
at_least_place xs least up low zero within = omega (arith, low 0 0 within)
at_least_place xs least up low (suc k) within =
    let before = at_least_place xs least up low k (omega arith) in
    let step = up k (omega arith) in
    let e : get_or xs (k + 1) 0 ≡ get_or xs (suc k) 0 = ap (λ (n : ℕ). get_or xs n 0) (let z : k + 1 ≡ suc k = omega arith in z) in
    omega arith

-- so a range has as many of them at most as it is long
pub length_within : (xs : List ℕ) (least count : ℕ) → IsStrictlyIncreasing xs → All (λ x. least ≤ x) xs → All (λ x. x < least + count) xs → length xs ≤ count
length_within [] least count up low below = omega arith
length_within (x ∷ xs) least count up low below =
    let last = at_least_place (x ∷ xs) least up low (length xs) (let z : length xs < suc (length xs) = omega arith in z) in
    let most = below (length xs) 0 (let z : length xs < suc (length xs) = omega arith in z) in
    omega arith

pub length_below : (xs : List ℕ) (most : ℕ) → IsStrictlyIncreasing xs → All (λ x. x < most) xs → length xs ≤ most
length_below xs most up below = length_within xs 0 most up (λ k d within. omega arith) (λ k d within. omega (arith, below k d within))

-- ---- parts of a list that a test passes

none_pass : (p : ℕ → Bool) (xs : List ℕ) → ((k : ℕ) → k < length xs → p (get_or xs k 0) ≡ false) → filter p xs ≡ []
none_pass p [] h = refl
none_pass p (x ∷ xs) h = rw (h 0 (let z : 0 < suc (length xs) = omega arith in z)) (none_pass p xs (λ k within. h (suc k) (omega arith)))

all_pass : (p : ℕ → Bool) (xs : List ℕ) → ((k : ℕ) → k < length xs → p (get_or xs k 0) ≡ true) → filter p xs ≡ xs
all_pass p [] h = refl
all_pass p (x ∷ xs) h = rw (h 0 (let z : 0 < suc (length xs) = omega arith in z), all_pass p xs (λ k within. h (suc k) (omega arith))) refl

pub front_passes : (p : ℕ → Bool) (xs : List ℕ) (i : ℕ) → i ≤ length xs → ((k : ℕ) → k < i → p (get_or xs k 0) ≡ true) → ((k : ℕ) → i ≤ k → k < length xs → p (get_or xs k 0) ≡ false) → take i xs ≡ filter p xs
front_passes p xs zero within pass fail = sym (none_pass p xs (λ k lt. fail k (omega arith) lt))
front_passes p [] (suc i) within pass fail = absurd (omega arith)
front_passes p (x ∷ xs) (suc i) within pass fail =
    rw (pass 0 (omega arith), front_passes p xs i (omega arith) (λ k lt. pass (suc k) (omega arith)) (λ k ge lt. fail (suc k) (omega arith) (omega arith))) refl

pub back_passes : (p : ℕ → Bool) (xs : List ℕ) (i : ℕ) → i ≤ length xs → ((k : ℕ) → k < i → p (get_or xs k 0) ≡ false) → ((k : ℕ) → i ≤ k → k < length xs → p (get_or xs k 0) ≡ true) → drop i xs ≡ filter p xs
back_passes p xs zero within fail pass = sym (all_pass p xs (λ k lt. pass k (omega arith) lt))
back_passes p [] (suc i) within fail pass = absurd (omega arith)
back_passes p (x ∷ xs) (suc i) within fail pass =
    rw (fail 0 (omega arith)) (back_passes p xs i (omega arith) (λ k lt. fail (suc k) (omega arith)) (λ k ge lt. pass (suc k) (omega arith) (omega arith)))

-- what passes one test and then another passes both
pub both_pass : (p q : ℕ → Bool) (xs : List ℕ) → filter q (filter p xs) ≡ filter (λ x. p x && q x) xs
both_pass p q [] = refl
both_pass p q (x ∷ xs) =
    elim (p x) as (λ s. filter q (cond s (x ∷ filter p xs) (filter p xs)) ≡ cond (s && q x) (x ∷ filter (λ y. p y && q y) xs) (filter (λ y. p y && q y) xs)) [
      | true ↦ ap (λ (l : List ℕ). cond (q x) (x ∷ l) l) (both_pass p q xs)
      | false ↦ both_pass p q xs
    ]

-- the numbers below a limit stand at the front, those from a limit on behind them
pub below_front : (xs : List ℕ) (limit i : ℕ) → i ≤ length xs → IsPartitionPoint (λ y. nat_lt y limit ≡ true) (λ y. nat_lt y limit ≡ false) xs i → take i xs ≡ filter (λ y. nat_lt y limit) xs
below_front xs limit i within parts = front_passes (λ y. nat_lt y limit) xs i within (λ k lt. parts.0 k 0 (omega arith) lt) (λ k ge lt. parts.1 k 0 ge lt)

pub from_back : (xs : List ℕ) (limit i : ℕ) → i ≤ length xs → IsPartitionPoint (λ y. nat_lt y limit ≡ true) (λ y. nat_lt y limit ≡ false) xs i → drop i xs ≡ filter (λ y. nat_le limit y) xs
from_back xs limit i within parts =
    back_passes (λ y. nat_le limit y) xs i within
    (λ k lt. lt-leb limit (get_or xs k 0) (ltb-true _ _ (parts.0 k 0 (omega arith) lt)))
    (λ k ge lt. le-leb limit (get_or xs k 0) (ltb-false _ _ (parts.1 k 0 ge lt)))

-- ---- numbers in a range

abbrev pub is_within : ℕ → ℕ → ℕ → Bool
is_within first count b = nat_le first b && nat_lt b (first + count)

pub within_bounds : (first count : ℕ) (xs : List ℕ) → All (λ b. (first ≤ b) × (b < first + count)) (filter (is_within first count) xs)
within_bounds first count xs k d lt =
    let p = and_parts _ _ (filter_passes (is_within first count) xs k d lt) in (leb-true _ _ p.0, ltb-true _ _ p.1)

-- rising numbers rise also where a first one is taken off
pub relative_rising : (first : ℕ) (xs : List ℕ) → IsStrictlyIncreasing xs → All (λ b. first ≤ b) xs → IsStrictlyIncreasing (map (λ b. b - first) xs)
relative_rising first xs up low k within =
    let long = length-map xs (λ b. b - first) in
    let a = get_or-map (λ b. b - first) xs k 0 0 (omega arith) in
    let b = get_or-map (λ b. b - first) xs (k + 1) 0 0 (omega arith) in
    let lower = low k 0 (omega arith) in
    let step = up k (omega arith) in
    omega arith

-- ---- searches

-- a place that a search found is the first of its number, and where it found none there is none
pub searched_place : (xs : List ℕ) (x : ℕ) (r : Result ℕ ℕ) → IsStrictlyIncreasing xs → IsBinarySearchResult (λ y. nat_cmp y x) xs r → MatchResult r (λ i. position (λ b. b == x) xs ≡ Some i) (λ i. position (λ b. b == x) xs ≡ None)
searched_place xs x (Ok i) up h =
    let found = searched xs x (Ok i) h (λ a b le lt. non_falling xs up a b 0 le lt) in
    let here : (get_or xs i 0 == x) ≡ true = eq-eqb (get_or xs i 0) x found.1 in
    let first : position_or_len (λ b. b == x) xs ≡ i = position_or_len_is (λ b. b == x) xs i 0 (omega arith) (λ k lt. ne_eqb (get_or xs k 0) x (λ same. let less = AllPairs-from_increasing xs up k i 0 lt found.0 in omega arith)) (λ lt. here) in
    rw (first, lt-ltb i (length xs) found.0) refl
searched_place xs x (Err i) up h =
    let parts = searched xs x (Err i) h (λ a b le lt. non_falling xs up a b 0 le lt) in
    let none : position_or_len (λ b. b == x) xs ≡ length xs = position_or_len_is (λ b. b == x) xs (length xs) 0 (omega arith)
    (λ k lt. ne_eqb (get_or xs k 0) x (λ same. elim (cases_lt k i) [ inl less ↦ omega (arith, parts.1 k less) | inr ge ↦ omega (arith, parts.2 k ge lt) ])) (λ lt. absurd (omega arith)) in
    rw (none, le-ltb (length xs) (length xs) (omega arith)) refl
