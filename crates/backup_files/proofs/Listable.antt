-- Rows that a manifest can list, in order.
use Rattle.std.proofs.Common.{◌≡◌, ℕ, ◌+◌, ◌^◌, ◌<◌, ◌≤◌, true, false, List, [], ◌∷◌, map, length, Ok, suc, sym, ap, subst, ◌∙◌, refl, arith}
use Rattle.std.specs.Prelude.{◌==◌, slice_index_or}
use Rattle.std.specs.Str.{IsUtf8}
use Rattle.std.specs.Char.{is_ascii_hexdigit}
use Rattle.std.specs.List.{All, AllByRecursion, AllPass, IsDistinct, list_all}
use Rattle.std.specs.List.Sorted.{IsPermutation, IsSortedByKey, IsStrictlySortedBy}
use Rattle.std.specs.declared.cmp.Ordering.{Ordering}
use Rattle.std.specs.declared.cmp.Ordering.TheVariants.{Less, Equal, Greater}
use Rattle.std.specs.Ordering.{nat_cmp, is_lt, is_eq, ordering_reverse}
use Rattle.std.specs.Cmp.Lexicographic.{slice_cmp, nat_list_cmp_total}
use Rattle.std.proofs.lemmas.Bool.{and_from, eq-eqb}
use Rattle.std.proofs.lemmas.Cmp.{eq_by_cmp_equiv}
use Rattle.std.proofs.lemmas.List.Elements.{All-nil, All-cons, All-head, All-tail}
use Rattle.std.proofs.lemmas.List.Sorted.{All-permutation, IsPermutation-map}
use Rattle.std.proofs.lemmas.List.Sums.{list_all-from_AllPass}
use Rattle.std.proofs.lemmas.Map.Keys.{IsDistinct-IsPermutation}
use Rattle.sha2.specs.Sha256.{sha256}
use Rattle.sha2.proofs.Facts256.{length-sha256}
use Rattle.hex.specs.Hex.{encode_lower, lower_digits, is_hex_digit}
use Rattle.hex.proofs.HexLemmas.{decode_of-ok, length-encode_with}
use Rattle.lsn_core.specs.declared.lsn.Lsn.{Lsn}
use Rattle.lsn_core.proofs.StoreFiles.{same_name}
use Rattle.manifest.specs.Kinds.{is_sum}
use Rattle.manifest.specs.Shape.{is_path}
use Rattle.manifest.specs.Reading.{ReadAnswers}
use Rattle.manifest.specs.Laws.{HasSmallNumbers, WrittenManifestsAreRead}
use Rattle.manifest.specs.Text.{IsWritable, IsWritableRow, manifest_text}
use Rattle.manifest.specs.declared.kinds.SumKind.TheVariants.{Sha256}
use Rattle.manifest.specs.declared.listing.FileRow.{FileRow}
use Rattle.backup_files.specs.Directory.{listing_with, row_of}
use Rattle.backup_files.specs.Rows.{AreListable, ListsRows, path_of}
use Rattle.backup_files.proofs.Digests.{spelled}

-- ---- sums

hex_digit : (c : ℕ) → is_hex_digit c ≡ true → is_ascii_hexdigit c ≡ true
hex_digit c e = grind arith

each : (text : List ℕ) → AllPass is_hex_digit text → AllPass is_ascii_hexdigit text
each [] all = All-nil (λ c. is_ascii_hexdigit c ≡ true)
each (c ∷ text) all =
    All-cons (λ c. is_ascii_hexdigit c ≡ true) c text (hex_digit c (All-head (λ c. is_hex_digit c ≡ true) c text all)) (each text (All-tail (λ c. is_hex_digit c ≡ true) c text all))

hex_digits : (text : List ℕ) → AllPass is_hex_digit text → list_all is_ascii_hexdigit text ≡ true
hex_digits text all = list_all-from_AllPass is_ascii_hexdigit text (each text all)

pub good_sum : (bytes : List ℕ) → is_sum Sha256 (encode_lower (sha256 bytes)) ≡ true
good_sum bytes =
    let sum = sha256 bytes in
    and_from (length (encode_lower sum) == 64) (list_all is_ascii_hexdigit (encode_lower sum))
    (eq-eqb (length (encode_lower sum)) 64 (omega (arith, length-encode_with lower_digits sum, length-sha256 bytes)))
    (hex_digits (encode_lower sum) (decode_of-ok (encode_lower sum) sum (spelled bytes)).1)

-- ---- rows that can be written

pub row_good : (modified path bytes : List ℕ) → IsUtf8 modified → IsUtf8 path → is_path path ≡ true → IsWritableRow (row_of modified (path, bytes))
row_good modified path bytes m u p = record { path = u; good_path = p; modified = m; sum = good_sum bytes }

pub all_map : {A B : Type 0} (f : A → B) (P : B → Type 0) (xs : List A) → AllByRecursion (λ x. P (f x)) xs → AllByRecursion P (map f xs)
all_map f P [] all = tt
all_map f P (x ∷ xs) all = (all.0, all_map f P xs all.1)

pub all_from : {A : Type 0} (P : A → Type 0) (xs : List A) → AllByRecursion P xs → All P xs
all_from P [] all = All-nil P
all_from P (x ∷ xs) all = All-cons P x xs all.0 (all_from P xs all.1)

-- ---- rows in order

abbrev path_cmp : List ℕ → List ℕ → Ordering
path_cmp = slice_cmp nat_cmp

abbrev Chain : List ℕ → List (List ℕ) → Type 0
Chain p [] = Unit {0}
Chain p (q ∷ qs) = (path_cmp p q ≡ Less) × Chain q qs

lower : (a b : List ℕ) (qs : List (List ℕ)) → path_cmp a b ≡ Less → Chain b qs → Chain a qs
lower a b [] less h = tt
lower a b (q ∷ qs) less h = (nat_list_cmp_total.trans a b q less h.0, h.1)

all_above : (p : List ℕ) (qs : List (List ℕ)) → Chain p qs → AllByRecursion (λ q. path_cmp p q ≡ Less) qs
all_above p [] h = tt
all_above p (q ∷ qs) h = (h.0, all_above p qs (lower p q qs h.0 h.1))

sorted_chain : (p : List ℕ) (qs : List (List ℕ)) → Chain p qs → IsStrictlySortedBy path_cmp qs
unfolding IsStrictlySortedBy
sorted_chain p [] h = tt
sorted_chain p (q ∷ qs) h = (all_above q qs h.1, sorted_chain q qs h.1)

less_of : (o r : Ordering) → o ≡ ordering_reverse r → is_lt r ≡ false → is_eq o ≡ false → o ≡ Less
less_of o Less e f g = absurd cc
less_of o Equal e f g = let no : true ≡ false = sym (ap is_eq e) ∙ g in absurd cc
less_of o Greater e f g = e

abbrev InOrder : List FileRow → Type 0
InOrder rows = (k : ℕ) (d : FileRow) → 0 ≤ k → k + 1 < length rows → is_lt (path_cmp (slice_index_or rows (k + 1) d).path (slice_index_or rows k d).path) ≡ false

chain_of : (row : FileRow) (rows : List FileRow) → InOrder (row ∷ rows) → IsDistinct same_name (map path_of (row ∷ rows)) → Chain row.path (map path_of rows)
unfolding IsDistinct
chain_of row [] order distinct = tt
chain_of row (next ∷ rows) order distinct = (
  less_of (path_cmp row.path next.path) (path_cmp next.path row.path) (nat_list_cmp_total.antisymm row.path next.path) (order 0 row (omega arith) (omega arith)) distinct.0.0,
  chain_of next rows (λ k d low within.
      let next_one : suc k + 1 ≡ suc (k + 1) = omega arith in
      subst (λ (j : ℕ). is_lt (path_cmp (slice_index_or (row ∷ next ∷ rows) j d).path (slice_index_or (next ∷ rows) k d).path) ≡ false) next_one (order (suc k) d (omega arith) (omega (arith, within)))) distinct.1,
)

strictly : (rows : List FileRow) → InOrder rows → IsDistinct same_name (map path_of rows) → IsStrictlySortedBy path_cmp (map path_of rows)
unfolding IsStrictlySortedBy
strictly [] order distinct = tt
strictly (row ∷ rows) order distinct =
    let chain = chain_of row rows order distinct in
    (all_above row.path (map path_of rows) chain, sorted_chain row.path (map path_of rows) chain)

flips : (a b : List ℕ) → same_name a b ≡ same_name b a
flips a b = (eq_by_cmp_equiv nat_list_cmp_total).symm a b

pub rows_rise : (rows sorted : List FileRow) → AreListable rows → IsPermutation rows sorted → IsSortedByKey path_of (slice_cmp nat_cmp) sorted → IsStrictlySortedBy (slice_cmp nat_cmp) (map path_of sorted)
rows_rise rows sorted are moved order =
    strictly sorted order (IsDistinct-IsPermutation same_name flips (map path_of rows) (map path_of sorted) (IsPermutation-map path_of rows sorted moved) are.distinct)

-- they make a manifest that can be written
pub manifest_good : (system : ℕ) (rows sorted : List FileRow) (start end : Lsn) → AreListable rows → start.0 < end.0 → IsPermutation rows sorted → IsSortedByKey path_of (slice_cmp nat_cmp) sorted → IsWritable (listing_with system sorted start end)
manifest_good system rows sorted start end are rises moved order = record {
  version = refl;
  system = refl;
  rows = All-permutation IsWritableRow rows sorted moved are.writable;
  order = rows_rise rows sorted are moved order;
  rises = rises;
}

-- and its numbers are small
manifest_small : (system : ℕ) (rows sorted : List FileRow) (start end : Lsn) → AreListable rows → IsPermutation rows sorted → system < 2 ^ 64 → start.0 < 2 ^ 64 → end.0 < 2 ^ 64 → HasSmallNumbers (listing_with system sorted start end)
manifest_small system rows sorted start end are moved s a b = record {
  system = s;
  sizes = All-permutation (λ (row : FileRow). row.size < 2 ^ 64) rows sorted moved are.small;
  start = a;
  end = b;
}

-- it is listed so, and read again
pub lists_rows : WrittenManifestsAreRead → (system : ℕ) (rows sorted : List FileRow) (start end : Lsn) (text : List ℕ) → AreListable rows → start.0 < end.0 → system < 2 ^ 64 → start.0 < 2 ^ 64 → end.0 < 2 ^ 64 → IsPermutation rows sorted → IsSortedByKey path_of (slice_cmp nat_cmp) sorted
    → text ≡ manifest_text (listing_with system sorted start end) → ListsRows system rows start end text
lists_rows written system rows sorted start end text are rises s a b moved order is =
    let m = listing_with system sorted start end in
    record {
      sorted = sorted;
      same = moved;
      order = rows_rise rows sorted are moved order;
      text_is = is;
      read = subst (λ (x : List ℕ). ReadAnswers x (Ok m)) (sym is) (written m (manifest_good system rows sorted start end are rises moved order) (manifest_small system rows sorted start end are moved s a b));
    }
