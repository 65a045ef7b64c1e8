-- Paths in order, of which none or one stands twice.
use Rattle.std.proofs.Common.{◌≡◌, ℕ, ◌+◌, ◌<◌, ◌↔◌, Bool, true, false, IsTrue, List, [], ◌∷◌, length, get_or, suc, zero, refl, sym, ap, subst, ◌∙◌, arith, add-one, Ordering, Less, Equal, Greater, is_eq, is_lt}
use Rattle.std.specs.Ordering.{nat_cmp, eq_by_cmp, ordering_reverse}
use Rattle.std.specs.List.{AllByRecursion, AllAdjacentBelow, IsAllAdjacentAnswer, IsDistinct}
use Rattle.std.specs.List.Sorted.{IsPermutation, IsSortedByKey, IsStrictlySortedBy}
use Rattle.std.specs.Cmp.Lexicographic.{slice_cmp}
use Rattle.std.proofs.lemmas.Cmp.{nat_list_cmp_total}
use Rattle.std.proofs.lemmas.List.Sorted.{IsPermutation-sym}
use Rattle.std.proofs.lemmas.Map.Keys.{IsDistinct-from_sorted, IsDistinct-IsPermutation}
use Rattle.directory_files.specs.Written.{itself}

abbrev Path : Type 0
Path = List ℕ

abbrev path_cmp : List ℕ → List ℕ → Ordering
path_cmp = slice_cmp nat_cmp

-- each path is above the one before it
abbrev Above : List ℕ → List Path → Type 0
Above path [] = Unit {0}
Above path (q ∷ qs) = (path_cmp path q ≡ Less) × Above q qs

lower : (a b : List ℕ) (qs : List Path) → path_cmp a b ≡ Less → Above b qs → Above a qs
lower a b [] less h = tt
lower a b (q ∷ qs) less h = (nat_list_cmp_total.trans a b q less h.0, h.1)

all_above : (path : List ℕ) (qs : List Path) → Above path qs → AllByRecursion (λ p. path_cmp path p ≡ Less) qs
all_above path [] h = tt
all_above path (q ∷ qs) h = (h.0, all_above path qs (lower path q qs h.0 h.1))

sorted_above : (path : List ℕ) (qs : List Path) → Above path qs → IsStrictlySortedBy path_cmp qs
unfolding IsStrictlySortedBy
sorted_above path [] h = tt
sorted_above path (q ∷ qs) h = (all_above q qs h.1, sorted_above q qs h.1)

less_of : (o : Ordering) → true ≡ is_lt o → o ≡ Less
less_of Less e = refl
less_of Equal e = absurd cc
less_of Greater e = absurd cc

abbrev pub Neighbours : Path → Path → Type 0
Neighbours x y = true ≡ is_lt (path_cmp x y)

above_of : (q : Path) (qs : List Path) → AllAdjacentBelow Neighbours (q ∷ qs) (length (q ∷ qs)) → Above q qs
above_of q [] h = tt
above_of q (next ∷ qs) h = (
  less_of (path_cmp q next) (h 0 q (omega arith)),
  above_of next qs (λ k d within.
      let next_one : suc k + 1 ≡ suc (k + 1) = omega arith in
      subst (λ (j : ℕ). true ≡ is_lt (path_cmp (get_or (next ∷ qs) k d) (get_or (q ∷ next ∷ qs) j d))) next_one (h (suc k) d (omega (arith, within)))),
)

-- where each neighbour is above, all paths rise
pub rises : (qs : List Path) → AllAdjacentBelow Neighbours qs (length qs) → IsStrictlySortedBy path_cmp qs
unfolding IsStrictlySortedBy
rises [] h = tt
rises (q ∷ qs) h = let above = above_of q qs h in (all_above q qs above, sorted_above q qs above)

neither_less : (a b : Ordering) → a ≡ ordering_reverse b → is_lt a ≡ false → is_lt b ≡ false → is_eq a ≡ true
neither_less a Less e f g = absurd cc
neither_less a Equal e f g = ap is_eq e
neither_less a Greater e f g = let h : true ≡ false = ap is_lt (sym e) ∙ f in absurd cc

apart : (qs : List Path) (k : ℕ) (d : Path) → suc k < length qs → IsDistinct (eq_by_cmp path_cmp) qs → eq_by_cmp path_cmp (get_or qs k d) (get_or qs (suc k) d) ≡ false
unfolding IsDistinct
apart [] k d within h = absurd (omega (arith, within))
apart (q ∷ []) k d within h = absurd (omega (arith, within))
apart (q ∷ next ∷ qs) zero d within h = h.0.0
apart (q ∷ next ∷ qs) (suc k) d within h = apart (next ∷ qs) k d (omega (arith, within)) h.1

turned : (o : Ordering) → is_eq (ordering_reverse o) ≡ is_eq o
turned Less = refl
turned Equal = refl
turned Greater = refl

flips : (a b : List ℕ) → eq_by_cmp path_cmp a b ≡ eq_by_cmp path_cmp b a
flips a b = ap is_eq (nat_list_cmp_total.antisymm a b) ∙ turned (path_cmp b a)

abbrev pub Falls : List Path → ℕ → Type 0
Falls qs k = (d : Path) → false ≡ is_lt (path_cmp (get_or qs k d) (get_or qs (k + 1) d))

-- paths in order of which two neighbours don't rise have one twice
none_rises : (sorted : List Path) (k : ℕ) → IsSortedByKey itself path_cmp sorted → k + 1 < length sorted → Falls sorted k → IsDistinct (eq_by_cmp path_cmp) sorted → ⊥
none_rises [] k order within falls distinct = absurd (omega (arith, within))
none_rises (first ∷ rest) k order within falls distinct =
    let sorted = first ∷ rest in
    let a = get_or sorted k first in
    let b = get_or sorted (k + 1) first in
    let same : eq_by_cmp path_cmp a b ≡ true = neither_less (path_cmp a b) (path_cmp b a) (nat_list_cmp_total.antisymm a b) (sym (falls first)) (order k first (omega arith) within) in
    let differ : eq_by_cmp path_cmp a b ≡ false = subst (λ (j : ℕ). eq_by_cmp path_cmp a (get_or sorted j first) ≡ false) (sym (add-one k)) (apart sorted k first (omega (arith, within)) distinct) in
    cc

abbrev Answer : List Path → Bool → Type 0
Answer sorted rising = IsAllAdjacentAnswer (λ x y b. b ≡ is_lt (path_cmp x y)) sorted rising

judged : (sorted : List Path) (rising : Bool) → IsSortedByKey itself path_cmp sorted → Answer sorted rising → IsTrue rising ↔ IsDistinct (eq_by_cmp path_cmp) sorted
judged sorted true order is = (λ t. IsDistinct-from_sorted path_cmp sorted (rises sorted is), λ d. refl)
judged sorted false order is = (λ t. absurd cc, λ d. absurd (none_rises sorted is.0 order is.1 is.2 d))

-- they rise just where none stands twice
pub distinct_just : (paths sorted all : List Path) (rising : Bool) → paths ≡ all → IsPermutation paths sorted → IsSortedByKey itself path_cmp sorted → Answer sorted rising → IsTrue rising ↔ IsDistinct (eq_by_cmp path_cmp) all
distinct_just paths sorted all rising is moved order answer =
    let here = judged sorted rising order answer in
    let back = IsPermutation-sym paths sorted moved in
    subst (λ (l : List Path). IsTrue rising ↔ IsDistinct (eq_by_cmp path_cmp) l) is
    (λ t. IsDistinct-IsPermutation (eq_by_cmp path_cmp) flips sorted paths back (here.0 t), λ d. here.1 (IsDistinct-IsPermutation (eq_by_cmp path_cmp) flips paths sorted moved d))
