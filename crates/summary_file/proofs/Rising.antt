-- Lists of which each element is below the next one.
use Rattle.std.proofs.Common.{◌≡◌, ◌↔◌, IsTrue, ℕ, ◌+◌, ◌<◌, Bool, true, false, List, [], ◌∷◌, length, get_or, map, suc, zero, refl, sym, ap, subst, ◌∙◌, arith, nat_lt, Ordering, Less, Equal, Greater}
use Rattle.std.specs.Ordering.{nat_cmp, is_lt}
use Rattle.std.specs.Cmp.{IsTotalOrder}
use Rattle.std.specs.List.{AllByRecursion, AllAdjacentBelow, IsAllAdjacentAnswer}
use Rattle.std.specs.List.Sorted.{IsStrictlySortedBy}
use Rattle.std.proofs.lemmas.Bool.{ltb-true, lt-ltb}
use Rattle.std.proofs.lemmas.Map.Keys.{sorted_from_strictly_increasing, IsStrictlyIncreasing-from_sorted}

-- each key is above the one before it
abbrev Above : {X K : Type 0} → (X → K) → (K → K → Ordering) → K → List X → Type 0
Above key cmp low [] = Unit {0}
Above key cmp low (x ∷ xs) = (cmp low (key x) ≡ Less) × Above key cmp (key x) xs

lower : {X K : Type 0} (key : X → K) (cmp : K → K → Ordering) (total : IsTotalOrder cmp) (a b : K) (xs : List X) → cmp a b ≡ Less → Above key cmp b xs → Above key cmp a xs
lower key cmp total a b [] less h = tt
lower key cmp total a b (x ∷ xs) less h = (total.trans a b (key x) less h.0, h.1)

all_above : {X K : Type 0} (key : X → K) (cmp : K → K → Ordering) (total : IsTotalOrder cmp) (low : K) (xs : List X) → Above key cmp low xs → AllByRecursion (λ k. cmp low k ≡ Less) (map key xs)
all_above key cmp total low [] h = tt
all_above key cmp total low (x ∷ xs) h = (h.0, all_above key cmp total low xs (lower key cmp total low (key x) xs h.0 h.1))

sorted_above : {X K : Type 0} (key : X → K) (cmp : K → K → Ordering) (total : IsTotalOrder cmp) (low : K) (xs : List X) → Above key cmp low xs → IsStrictlySortedBy cmp (map key xs)
unfolding IsStrictlySortedBy
sorted_above key cmp total low [] h = tt
sorted_above key cmp total low (x ∷ xs) h = (all_above key cmp total (key x) xs h.1, sorted_above key cmp total (key x) xs h.1)

less_of : (o : Ordering) → true ≡ is_lt o → o ≡ Less
less_of Less e = refl
less_of Equal e = absurd cc
less_of Greater e = absurd cc

-- neighbours whose keys rise
abbrev pub Neighbours : {X K : Type 0} → (X → K) → (K → K → Ordering) → X → X → Type 0
Neighbours key cmp x y = true ≡ is_lt (cmp (key x) (key y))

above_of : {X K : Type 0} (key : X → K) (cmp : K → K → Ordering) (x : X) (xs : List X) → AllAdjacentBelow (Neighbours key cmp) (x ∷ xs) (length (x ∷ xs)) → Above key cmp (key x) xs
above_of key cmp x [] h = tt
above_of key cmp x (y ∷ xs) h = (
  less_of (cmp (key x) (key y)) (h 0 x (omega arith)),
  above_of key cmp y xs (λ k d within.
      let next_one : suc k + 1 ≡ suc (k + 1) = omega arith in
      subst (λ (j : ℕ). true ≡ is_lt (cmp (key (get_or (y ∷ xs) k d)) (key (get_or (x ∷ y ∷ xs) j d)))) next_one (h (suc k) d (omega (arith, within)))),
)

-- where each neighbour is above, all keys rise
pub rises : {X K : Type 0} (key : X → K) (cmp : K → K → Ordering) (total : IsTotalOrder cmp) (xs : List X) → AllAdjacentBelow (Neighbours key cmp) xs (length xs) → IsStrictlySortedBy cmp (map key xs)
unfolding IsStrictlySortedBy
rises key cmp total [] h = tt
rises key cmp total (x ∷ xs) h = let above = above_of key cmp x xs h in (all_above key cmp total (key x) xs above, sorted_above key cmp total (key x) xs above)

-- and where keys rise, each neighbour is above
pub next_above : {X K : Type 0} (key : X → K) (cmp : K → K → Ordering) (xs : List X) (k : ℕ) (d : X) → k + 1 < length xs → IsStrictlySortedBy cmp (map key xs) → cmp (key (get_or xs k d)) (key (get_or xs (k + 1) d)) ≡ Less
unfolding IsStrictlySortedBy
next_above key cmp [] k d within h = absurd (omega (arith, within))
next_above key cmp (x ∷ []) k d within h = absurd (omega (arith, within))
next_above key cmp (x ∷ y ∷ xs) zero d within h = h.0.0
next_above key cmp (x ∷ y ∷ xs) (suc k) d within h =
    let next_one : suc (k + 1) ≡ suc k + 1 = omega arith in
    subst (λ (j : ℕ). cmp (key (get_or (y ∷ xs) k d)) (key (get_or (x ∷ y ∷ xs) j d)) ≡ Less) next_one (next_above key cmp (y ∷ xs) k d (omega (arith, within)) h.1)

-- keys of which two neighbours don't rise
pub falls : {X K : Type 0} (key : X → K) (cmp : K → K → Ordering) (xs : List X) (k : ℕ) → k + 1 < length xs → ((d : X) → false ≡ is_lt (cmp (key (get_or xs k d)) (key (get_or xs (k + 1) d)))) → IsStrictlySortedBy cmp (map key xs) → ⊥
falls key cmp [] k within not_less h = omega (arith, within)
falls key cmp (x ∷ xs) k within not_less h =
    let e : false ≡ true = not_less x ∙ ap is_lt (next_above key cmp (x ∷ xs) k x within h) in
    cc

-- numbers rise just where each is below the next one
pub rising : (xs : List ℕ) (b : Bool) → IsAllAdjacentAnswer (λ x y r. r ≡ nat_lt x y) xs b → IsTrue b ↔ IsStrictlySortedBy nat_cmp xs
rising xs true answer = (λ t. sorted_from_strictly_increasing xs (λ k within. ltb-true _ _ (sym (answer k 0 within))), λ h. refl)
rising xs false answer = (
  λ t. absurd cc,
  λ h.
      let less = lt-ltb _ _ (IsStrictlyIncreasing-from_sorted xs h answer.0 answer.1) in
      let e : false ≡ true = answer.2 0 ∙ less in
      absurd cc,
)
