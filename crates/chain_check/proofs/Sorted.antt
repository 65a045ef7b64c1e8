-- The rows of a manifest that was read stand in byte order of their paths.
use Rattle.std.proofs.Common.{◌≡◌, ℕ, ◌+◌, Bool, true, false, if◌then◌else◌, List, [], ◌∷◌, get_or, map, suc, zero, Some, None, Option, Ok, refl, sym, ap, ap₂, subst, ◌∙◌, arith, Ordering, Less, Equal, Greater, is_lt}
use Rattle.std.specs.Ordering.{nat_cmp, ordering_reverse}
use Rattle.std.specs.List.{IsAllAdjacentAnswer}
use Rattle.std.specs.List.Sorted.{IsSortedByKey, IsStrictlySortedBy}
use Rattle.std.specs.Cmp.Lexicographic.{slice_cmp}
use Rattle.std.proofs.lemmas.Cmp.{nat_list_cmp_total}
use Rattle.lsn_core.specs.byte_words.Numbers.{◌>>=◌}
use Rattle.manifest.specs.Kinds.{file_in, file_with, all_files, kind_in, is_sum}
use Rattle.manifest.specs.Listing.{Listing}
use Rattle.manifest.specs.Reading.{ReadAnswers, IsManifest}
use Rattle.manifest.specs.Shape.{path_of as raw_path}
use Rattle.manifest.specs.declared.listing.FileRow.{FileRow}
use Rattle.manifest.specs.declared.shape.RawRow.{RawRow}
use Rattle.chain_check.specs.Inside.{path_of}

abbrev path_cmp : List ℕ → List ℕ → Ordering
path_cmp = slice_cmp nat_cmp

turned : (o : Ordering) → o ≡ Less → is_lt (ordering_reverse o) ≡ false
turned Less e = refl
turned Equal e = absurd cc
turned Greater e = absurd cc

-- neighbours that rise don't fall
not_below : (a b : List ℕ) → path_cmp a b ≡ Less → is_lt (path_cmp b a) ≡ false
not_below a b less = ap is_lt (nat_list_cmp_total.antisymm b a) ∙ turned (path_cmp a b) less

rising : (rows : List FileRow) → IsStrictlySortedBy path_cmp (map path_of rows) → IsSortedByKey path_of path_cmp rows
unfolding IsStrictlySortedBy
rising [] s k d low within = absurd (omega (arith, within))
rising (row ∷ []) s k d low within = absurd (omega (arith, within))
rising (row ∷ next ∷ rows) s zero d low within = not_below row.path next.path s.0.0
rising (row ∷ next ∷ rows) s (suc k) d low within =
    let next_one : suc (k + 1) ≡ suc k + 1 = omega arith in
    subst (λ (j : ℕ). is_lt (path_cmp (get_or (row ∷ next ∷ rows) j d).path (get_or (next ∷ rows) k d).path) ≡ false) next_one (rising (next ∷ rows) s.1 k d (omega arith) (omega (arith, within)))

is_less : (o : Ordering) → is_lt o ≡ true → o ≡ Less
is_less Less e = refl
is_less Equal e = absurd cc
is_less Greater e = absurd cc

-- what a test of neighbours answers
pub rising_sorted : (rows : List FileRow) (r : Bool) → IsAllAdjacentAnswer (λ x y b. b ≡ is_lt (path_cmp x.path y.path)) rows r → r ≡ true → IsSortedByKey path_of path_cmp rows
rising_sorted rows true h t k d low within = not_below (get_or rows k d).path (get_or rows (k + 1) d).path (is_less _ (sym (h k d within)))
rising_sorted rows false h t k d low within = absurd cc

bound : {A B : Type 0} (o : Option A) (f : A → Option B) (y : B) → (o >>= f) ≡ Some y → (x : A) × (o ≡ Some x) × (f x ≡ Some y)
bound None f y e = absurd (cc)
bound (Some x) f y e = (x, refl, e)

kept : {A : Type 0} (test : Bool) (x y : A) → (if test then Some x else None) ≡ Some y → x ≡ y
kept true x y e = cc
kept false x y e = absurd (cc)

file_path : (row : RawRow) (file : FileRow) → file_in row ≡ Some file → file.path ≡ row.path
file_path row file e =
    let kind = bound (kind_in row.kind) _ file e in
    sym (ap path_of (kept (is_sum kind.0 row.sum) (file_with row kind.0) file kind.2))

same_paths : (rows : List RawRow) (files : List FileRow) → all_files rows ≡ Some files → map path_of files ≡ map raw_path rows
same_paths [] files e = let none : [] ≡ files = cc in subst (λ (x : List FileRow). map path_of x ≡ []) none refl
same_paths (row ∷ rows) files e =
    let file = bound (file_in row) _ files e in
    let rest = bound (all_files rows) _ files file.2 in
    let is : file.0 ∷ rest.0 ≡ files = cc in
    subst (λ (x : List FileRow). map path_of x ≡ row.path ∷ map raw_path rows) is (ap₂ (λ (p : List ℕ) (ps : List (List ℕ)). p ∷ ps) (file_path row file.0 file.1) (same_paths rows rest.0 rest.1))

pub read_sorted : (bytes : List ℕ) (m : Listing) → ReadAnswers bytes (Ok m) → IsSortedByKey path_of path_cmp m.files
read_sorted bytes m is =
    let read : IsManifest is.1.0 m = is.1.2 in
    let paths = same_paths read.0.rows read.1 read.3 in
    let files : read.1 ≡ m.files = sym (ap (λ (x : Listing). x.files) read.5) in
    rising m.files (subst (λ (x : List FileRow). IsStrictlySortedBy path_cmp (map path_of x)) files (subst (λ (x : List (List ℕ)). IsStrictlySortedBy path_cmp x) (sym paths) read.2.shape.rows.1))
