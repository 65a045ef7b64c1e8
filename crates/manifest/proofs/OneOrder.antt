-- Rows have one arrangement in order of their paths.
use Rattle.std.proofs.Common.{◌≡◌, ℕ, ◌<◌, List, [], ◌∷◌, length, get_or, map, suc, zero, refl, sym, ap₂, subst, ◌∙◌, arith, Ordering, Less, Equal, Greater, inl, inr, ◌⊎◌}
use Rattle.std.specs.Ordering.{nat_cmp, ordering_reverse}
use Rattle.std.specs.List.{AllByRecursion, Contains}
use Rattle.std.specs.List.Sorted.{IsPermutation, IsStrictlySortedBy}
use Rattle.std.specs.Cmp.Lexicographic.{slice_cmp}
use Rattle.std.proofs.lemmas.Cmp.{nat_list_cmp_total}
use Rattle.std.proofs.lemmas.List.Sorted.{IsPermutation-sym, IsPermutation-trans, Contains-permutation}
use Rattle.manifest.specs.Shape.{path_of, IsArranged}
use Rattle.manifest.specs.declared.shape.RawRow.{RawRow}

abbrev path_cmp : List ℕ → List ℕ → Ordering
path_cmp = slice_cmp nat_cmp

abbrev IsIn : RawRow → List RawRow → Type 0
IsIn row [] = ⊥
IsIn row (first ∷ rows) = (row ≡ first) ⊎ IsIn row rows

contains : (row : RawRow) (rows : List RawRow) → IsIn row rows → Contains rows row
contains row [] h = absurd h
contains row (first ∷ rows) (inl same) = (0, omega arith, sym same)
contains row (first ∷ rows) (inr there) = let c = contains row rows there in (suc c.0, omega (arith, c.1), c.2)

is_in : (row : RawRow) (rows : List RawRow) (k : ℕ) → k < length rows → get_or rows k row ≡ row → IsIn row rows
is_in row [] k within is = absurd (omega (arith, within))
is_in row (first ∷ rows) zero within is = inl (sym is)
is_in row (first ∷ rows) (suc k) within is = inr (is_in row rows k (omega (arith, within)) is)

moved : (xs ys : List RawRow) → IsPermutation xs ys → (row : RawRow) → IsIn row xs → IsIn row ys
moved xs ys same row there = let c = Contains-permutation xs ys row same (contains row xs there) in is_in row ys c.0 c.1 c.2

each : (P : List ℕ → Type 0) (row : RawRow) (rows : List RawRow) → AllByRecursion P (map path_of rows) → IsIn row rows → P row.path
each P row [] all h = absurd h
each P row (first ∷ rows) all (inl same) = subst (λ (r : RawRow). P r.path) (sym same) all.0
each P row (first ∷ rows) all (inr there) = each P row rows all.1 there

turned_less : (o : Ordering) → o ≡ ordering_reverse o → o ≡ Less → ⊥
turned_less Less e l = cc
turned_less Equal e l = cc
turned_less Greater e l = cc

not_itself : (path : List ℕ) → path_cmp path path ≡ Less → ⊥
not_itself path less = turned_less (path_cmp path path) (nat_list_cmp_total.antisymm path path) less

-- the first rows are one, since each would be below the other
first_same : (x y : RawRow) (xs ys : List RawRow) → AllByRecursion (λ p. path_cmp x.path p ≡ Less) (map path_of xs) → AllByRecursion (λ p. path_cmp y.path p ≡ Less) (map path_of ys)
    → IsIn x (y ∷ ys) → IsIn y (x ∷ xs) → x ≡ y
first_same x y xs ys above below (inl same) h = same
first_same x y xs ys above below (inr there) (inl same) = sym same
first_same x y xs ys above below (inr there) (inr here) =
    absurd (not_itself x.path (nat_list_cmp_total.trans x.path y.path x.path (each (λ p. path_cmp x.path p ≡ Less) y xs above here) (each (λ p. path_cmp y.path p ≡ Less) x ys below there)))

behind : (x y row : RawRow) (xs ys : List RawRow) → x ≡ y → AllByRecursion (λ p. path_cmp x.path p ≡ Less) (map path_of xs) → IsIn row xs → IsIn row (y ∷ ys) → IsIn row ys
behind x y row xs ys e above here (inr there) = there
behind x y row xs ys e above here (inl same) =
    absurd (not_itself x.path (subst (λ (r : RawRow). path_cmp x.path r.path ≡ Less) (same ∙ sym e) (each (λ p. path_cmp x.path p ≡ Less) row xs above here)))

same_rows : (xs ys : List RawRow) → IsStrictlySortedBy path_cmp (map path_of xs) → IsStrictlySortedBy path_cmp (map path_of ys)
    → ((row : RawRow) → IsIn row xs → IsIn row ys) → ((row : RawRow) → IsIn row ys → IsIn row xs) → xs ≡ ys
unfolding IsStrictlySortedBy
same_rows [] [] s t f g = refl
same_rows [] (y ∷ ys) s t f g = absurd (g y (inl refl))
same_rows (x ∷ xs) [] s t f g = absurd (f x (inl refl))
same_rows (x ∷ xs) (y ∷ ys) s t f g =
    let first = first_same x y xs ys s.0 t.0 (f x (inl refl)) (g y (inl refl)) in
    ap₂ (λ (r : RawRow) (rs : List RawRow). r ∷ rs) first
    (same_rows xs ys s.1 t.1 (λ row h. behind x y row xs ys first s.0 h (f row (inr h))) (λ row h. behind y x row ys xs (sym first) t.0 h (g row (inr h))))

pub arranged_once : (rows xs ys : List RawRow) → IsArranged rows xs → IsArranged rows ys → xs ≡ ys
arranged_once rows xs ys is was =
    let there = IsPermutation-trans xs rows ys (IsPermutation-sym rows xs is.0) was.0 in
    same_rows xs ys is.1 was.1 (moved xs ys there) (moved ys xs (IsPermutation-sym xs ys there))
