-- Rows whose paths rise, and rows in which a path stands twice.
use Rattle.std.proofs.Common.{◌≡◌, ℕ, ◌+◌, ◌<◌, true, false, List, [], ◌∷◌, length, get_or, map, suc, zero, refl, sym, ap, subst, ◌∙◌, arith, add-one, Ordering, Less, Equal, Greater, is_eq, is_lt}
use Rattle.std.specs.Ordering.{nat_cmp, eq_by_cmp, ordering_reverse}
use Rattle.std.specs.List.{AllByRecursion, AllAdjacentBelow, IsDistinct}
use Rattle.std.specs.List.Sorted.{IsPermutation, IsSortedByKey, IsStrictlySortedBy}
use Rattle.std.specs.Cmp.Lexicographic.{slice_cmp}
use Rattle.std.proofs.lemmas.Cmp.{nat_list_cmp_total}
use Rattle.std.proofs.lemmas.List.Sorted.{IsPermutation-sym, IsPermutation-trans, IsPermutation-map}
use Rattle.std.proofs.lemmas.Map.Keys.{IsDistinct-from_sorted, IsDistinct-IsPermutation}
use Rattle.manifest.specs.Shape.{path_of, IsArranged}
use Rattle.manifest.specs.declared.shape.RawRow.{RawRow}

abbrev path_cmp : List ℕ → List ℕ → Ordering
path_cmp = slice_cmp nat_cmp

-- each path is above the one before it
abbrev Above : List ℕ → List RawRow → Type 0
Above path [] = Unit {0}
Above path (row ∷ rows) = (path_cmp path row.path ≡ Less) × Above row.path rows

lower : (a b : List ℕ) (rows : List RawRow) → path_cmp a b ≡ Less → Above b rows → Above a rows
lower a b [] less h = tt
lower a b (row ∷ rows) less h = (nat_list_cmp_total.trans a b row.path less h.0, h.1)

all_above : (path : List ℕ) (rows : List RawRow) → Above path rows → AllByRecursion (λ p. path_cmp path p ≡ Less) (map path_of rows)
all_above path [] h = tt
all_above path (row ∷ rows) h = (h.0, all_above path rows (lower path row.path rows h.0 h.1))

sorted_above : (path : List ℕ) (rows : List RawRow) → Above path rows → IsStrictlySortedBy path_cmp (map path_of rows)
unfolding IsStrictlySortedBy
sorted_above path [] h = tt
sorted_above path (row ∷ rows) h = (all_above row.path rows h.1, sorted_above row.path rows h.1)

less_of : (o : Ordering) → true ≡ is_lt o → o ≡ Less
less_of Less e = refl
less_of Equal e = absurd cc
less_of Greater e = absurd cc

abbrev pub Neighbours : RawRow → RawRow → Type 0
Neighbours x y = true ≡ is_lt (path_cmp x.path y.path)

above_of : (row : RawRow) (rows : List RawRow) → AllAdjacentBelow Neighbours (row ∷ rows) (length (row ∷ rows)) → Above row.path rows
above_of row [] h = tt
above_of row (next ∷ rows) h = (
  less_of (path_cmp row.path next.path) (h 0 row (omega arith)),
  above_of next rows (λ k d within.
      let next_one : suc k + 1 ≡ suc (k + 1) = omega arith in
      subst (λ (j : ℕ). true ≡ is_lt (path_cmp (get_or (next ∷ rows) k d).path (get_or (row ∷ next ∷ rows) j d).path)) next_one (h (suc k) d (omega (arith, within)))),
)

-- where each neighbour is above, all paths rise
pub rises : (rows : List RawRow) → AllAdjacentBelow Neighbours rows (length rows) → IsStrictlySortedBy path_cmp (map path_of rows)
unfolding IsStrictlySortedBy
rises [] h = tt
rises (row ∷ rows) h = let above = above_of row rows h in (all_above row.path rows above, sorted_above row.path rows above)

neither_less : (a b : Ordering) → a ≡ ordering_reverse b → is_lt a ≡ false → is_lt b ≡ false → is_eq a ≡ true
neither_less a Less e f g = absurd cc
neither_less a Equal e f g = ap is_eq e
neither_less a Greater e f g = let h : true ≡ false = ap is_lt (sym e) ∙ f in absurd cc

apart : (rows : List RawRow) (k : ℕ) (d : RawRow) → suc k < length rows → IsDistinct (eq_by_cmp path_cmp) (map path_of rows) → eq_by_cmp path_cmp (get_or rows k d).path (get_or rows (suc k) d).path ≡ false
unfolding IsDistinct
apart [] k d within h = absurd (omega (arith, within))
apart (row ∷ []) k d within h = absurd (omega (arith, within))
apart (row ∷ next ∷ rows) zero d within h = h.0.0
apart (row ∷ next ∷ rows) (suc k) d within h = apart (next ∷ rows) k d (omega (arith, within)) h.1

turned : (o : Ordering) → is_eq (ordering_reverse o) ≡ is_eq o
turned Less = refl
turned Equal = refl
turned Greater = refl

flips : (a b : List ℕ) → eq_by_cmp path_cmp a b ≡ eq_by_cmp path_cmp b a
flips a b = ap is_eq (nat_list_cmp_total.antisymm a b) ∙ turned (path_cmp b a)

abbrev pub Falls : List RawRow → ℕ → Type 0
Falls rows k = (d : RawRow) → false ≡ is_lt (path_cmp (get_or rows k d).path (get_or rows (k + 1) d).path)

-- rows in order of which two neighbours don't rise have no arrangement without a path twice
pub none_rises : (rows sorted : List RawRow) (k : ℕ) → IsPermutation rows sorted → IsSortedByKey path_of path_cmp sorted → k + 1 < length sorted → Falls sorted k
    → (other : List RawRow) → IsArranged rows other → ⊥
none_rises rows [] k moved order within falls other is = absurd (omega (arith, within))
none_rises rows (first ∷ rest) k moved order within falls other is =
    let sorted = first ∷ rest in
    let there = IsPermutation-trans other rows sorted (IsPermutation-sym rows other is.0) moved in
    let distinct = IsDistinct-IsPermutation (eq_by_cmp path_cmp) flips (map path_of other) (map path_of sorted) (IsPermutation-map path_of other sorted there) (IsDistinct-from_sorted path_cmp (map path_of other) is.1) in
    let a = (get_or sorted k first).path in
    let b = (get_or sorted (k + 1) first).path in
    let same : eq_by_cmp path_cmp a b ≡ true = neither_less (path_cmp a b) (path_cmp b a) (nat_list_cmp_total.antisymm a b) (sym (falls first)) (order k first (omega arith) within) in
    let differ : eq_by_cmp path_cmp a b ≡ false = subst (λ (j : ℕ). eq_by_cmp path_cmp a (get_or sorted j first).path ≡ false) (sym (add-one k)) (apart sorted k first (omega (arith, within)) distinct) in
    cc
