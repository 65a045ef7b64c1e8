-- The names of a set, in order, are those of the files that it has the names of.
use Rattle.std.proofs.Common.{◌≡◌, ℕ, Bool, true, false, T, ◌&&◌, ◌||◌, List, [], ◌∷◌, map, Option, Some, None, IfSome, is_some, string_bytes, refl, sym, ap, subst, ◌∙◌}
use Rattle.std.specs.declared.string.String.{String}
use Rattle.std.specs.declared.cmp.Ordering.TheVariants.{Less}
use Rattle.std.specs.Ordering.{nat_cmp, is_lt, eq_by_cmp}
use Rattle.std.specs.Cmp.Lexicographic.{slice_cmp, nat_list_cmp_total}
use Rattle.std.specs.String.{string_cmp}
use Rattle.std.specs.List.{AllByRecursion, list_any}
use Rattle.std.specs.List.Sorted.{IsStrictlySortedBy}
use Rattle.std.specs.BTreeSet.{BTreeSet, IsOrdered}
use Rattle.std.specs.FinMap.{keys, entries, contains_key-keys, from_sorted, is_sorted, entries_sorted, entries-from_sorted, get-from_sorted, same_map, slice_cmp-IsAntisymmetric, nat_cmp-IsAntisymmetric}
use Rattle.std.specs.FinMap.Entries.{below_all, is_some-find}
use Rattle.lsn_core.specs.Files.{Files}
use Rattle.vault_os.specs.Listing.{HasNames}

abbrev Marks : Type 0
Marks = List (List ℕ × Unit {0})

both : (a b : Bool) → T a → T b → T (a && b)
both true b p q = q
both false b p q = p

first_of : (a b : Bool) → T (a && b) → T a
first_of true b h = tt
first_of false b h = h

second_of : (a b : Bool) → T (a && b) → T b
second_of true b h = h
second_of false b h = absurd h

-- the names of a set, and of files, as marks
abbrev marked : {Z : Type 0} → List (String Z) → Marks
marked ks = map (λ k. (string_bytes k, tt)) ks

abbrev marks_of : List (List ℕ × List ℕ) → Marks
marks_of es = map (λ e. (e.0, tt)) es

below_marked : {Z : Type 0} (k : String Z) (ks : List (String Z)) → AllByRecursion (λ y. string_cmp k y ≡ Less) ks → T (below_all (slice_cmp nat_cmp) (string_bytes k) (marked ks))
below_marked k [] h = tt
below_marked k (x ∷ ks) h = both _ _ (subst (λ r. T (is_lt r)) (sym h.0) tt) (below_marked k ks h.1)

sorted_marked : {Z : Type 0} (ks : List (String Z)) → IsStrictlySortedBy string_cmp ks → T (is_sorted (slice_cmp nat_cmp) (marked ks))
unfolding IsStrictlySortedBy
sorted_marked [] h = tt
sorted_marked (k ∷ ks) h = both _ _ (below_marked k ks h.0) (sorted_marked ks h.1)

below_marks : (k : List ℕ) (es : List (List ℕ × List ℕ)) → T (below_all (slice_cmp nat_cmp) k es) → T (below_all (slice_cmp nat_cmp) k (marks_of es))
below_marks k [] h = tt
below_marks k (e ∷ es) h = both _ _ (first_of _ _ h) (below_marks k es (second_of (is_lt (slice_cmp nat_cmp k e.0)) _ h))

sorted_marks : (es : List (List ℕ × List ℕ)) → T (is_sorted (slice_cmp nat_cmp) es) → T (is_sorted (slice_cmp nat_cmp) (marks_of es))
sorted_marks [] h = tt
sorted_marks (e ∷ es) h = both _ _ (below_marks e.0 es (first_of _ _ h)) (sorted_marks es (second_of (below_all (slice_cmp nat_cmp) e.0 es) _ h))

names_marked : {Z : Type 0} (ks : List (String Z)) → map (λ (e : List ℕ × Unit {0}). e.0) (marked ks) ≡ map string_bytes ks
names_marked [] = refl
names_marked (k ∷ ks) = ap (λ (l : List (List ℕ)). string_bytes k ∷ l) (names_marked ks)

names_marks : (es : List (List ℕ × List ℕ)) → map (λ (e : List ℕ × Unit {0}). e.0) (marks_of es) ≡ map (λ (e : List ℕ × List ℕ). e.0) es
names_marks [] = refl
names_marks (e ∷ es) = ap (λ (l : List (List ℕ)). e.0 ∷ l) (names_marks es)

any_marked : {Z : Type 0} (q : List ℕ) (ks : List (String Z)) → list_any (eq_by_cmp (slice_cmp nat_cmp) q) (map (λ (e : List ℕ × Unit {0}). e.0) (marked ks)) ≡ list_any (λ k. eq_by_cmp (slice_cmp nat_cmp) q (string_bytes k)) ks
any_marked q [] = refl
any_marked q (k ∷ ks) = ap (λ (b : Bool). eq_by_cmp (slice_cmp nat_cmp) q (string_bytes k) || b) (any_marked q ks)

same_mark : (a b : Option (Unit {0})) → is_some a ≡ is_some b → a ≡ b
same_mark None None e = refl
same_mark None (Some b) e = absurd cc
same_mark (Some a) None e = absurd cc
same_mark (Some a) (Some b) e = refl

pub named_keys : {Z : Type 0} (names : BTreeSet (String Z)) (m : Files) → IsOrdered string_cmp names → HasNames names m → map string_bytes names.keys ≡ keys m
named_keys names m ordered has =
    let es : Marks = marked names.keys in
    let fs : Marks = marks_of (entries m) in
    let es_sorted = sorted_marked names.keys ordered in
    let fs_sorted = sorted_marks (entries m) (entries_sorted m) in
    let same : from_sorted {R = slice_cmp nat_cmp} es ≡ from_sorted fs = same_map nat_list_cmp_total (slice_cmp-IsAntisymmetric nat_cmp-IsAntisymmetric) _ _ (λ q. same_mark _ _
    (ap is_some (get-from_sorted (slice_cmp nat_cmp) es q es_sorted) ∙ is_some-find (slice_cmp nat_cmp) q es ∙ any_marked q names.keys ∙ has q ∙ contains_key-keys m q
    ∙ ap (list_any (eq_by_cmp (slice_cmp nat_cmp) q)) (sym (names_marks (entries m))) ∙ sym (is_some-find (slice_cmp nat_cmp) q fs) ∙ ap is_some (sym (get-from_sorted (slice_cmp nat_cmp) fs q fs_sorted)))) in
    sym (names_marked names.keys) ∙ ap (map (λ (e : List ℕ × Unit {0}). e.0)) (sym (entries-from_sorted (slice_cmp nat_cmp) es es_sorted)) ∙ ap (λ s. map (λ (e : List ℕ × Unit {0}). e.0) (entries s)) same
    ∙ ap (map (λ (e : List ℕ × Unit {0}). e.0)) (entries-from_sorted (slice_cmp nat_cmp) fs fs_sorted) ∙ names_marks (entries m)

pub all_names : {Z : Type 0} (files : Option Files) (names : BTreeSet (String Z)) (told : List (List ℕ)) → IsOrdered string_cmp names → IfSome files (HasNames names) → told ≡ map string_bytes names.keys → IfSome files (λ m. told ≡ keys m)
all_names None names told ordered has e = tt
all_names (Some m) names told ordered has e = e ∙ named_keys names m ordered has
