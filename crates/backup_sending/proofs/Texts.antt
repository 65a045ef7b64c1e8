-- The texts of a manifest's rows are good ones.
use Rattle.std.proofs.Common.{◌≡◌, ◌≢◌, ℕ, ◌^◌, ◌<◌, Bool, true, false, cond, not, ◌&&◌, List, [], ◌∷◌, ◌++◌, length, get_or, codes, zero, suc, refl, sym, ap, subst, ◌∙◌, arith}
use Rattle.std.specs.Prelude.{◌==◌}
use Rattle.std.specs.Str.{IsUtf8, bytes_eq}
use Rattle.std.specs.Fmt.{decimal}
use Rattle.std.specs.Char.{is_ascii_digit}
use Rattle.std.specs.List.{AllByRecursion, list_all, slice_split, onto_first}
use Rattle.std.proofs.lemmas.Bool.{and_from, and_parts, ne_eqb}
use Rattle.std.proofs.lemmas.Fmt.{decimal_nonempty}
use Rattle.std.proofs.lemmas.List.{append-nil}
use Rattle.std.proofs.lemmas.Str.{IsUtf8-append}
use Rattle.json.proofs.Printed.Utf8.{IsUtf8-are_ascii}
use Rattle.lsn_core.proofs.text_numbers.Decimal.{decimal_is_digits}
use Rattle.lsn_core.specs.text_numbers.Numbers.{all_digits}
use Rattle.lsn_core.specs.Names.{fork_path_bytes, file_prefix, file_tail, plain_name, segment_suffix, IsNamed}
use Rattle.lsn_core.specs.declared.ids.ForkId.{ForkId}
use Rattle.lsn_core.specs.declared.ids.ForkKind.{ForkKind}
use Rattle.lsn_core.specs.declared.ids.ForkKind.TheVariants.{Main, Init}
use Rattle.manifest.specs.Shape.{is_component, is_path}
use Rattle.backup_files.proofs.TimeTexts.{ascii_front, decimal_text}

-- ---- UTF-8

none : IsUtf8 []
none = IsUtf8-are_ascii [] refl

suffix_some : (seg : ℕ) → seg ≢ 0 → segment_suffix seg ≡ 46 ∷ decimal seg
suffix_some seg some = rw (ne_eqb seg 0 some) refl

suffix_text : (seg : ℕ) → seg < 2 ^ 64 → IsUtf8 (segment_suffix seg)
suffix_text zero small = none
suffix_text (suc seg) small = subst IsUtf8 (sym (suffix_some (suc seg) (λ z. omega (arith, z)))) (ascii_front 46 (decimal (suc seg)) (omega arith) (decimal_text (suc seg) small))

tail_text : (kind : ForkKind) (seg : ℕ) → seg < 2 ^ 64 → IsUtf8 (file_tail kind seg)
tail_text Main seg small = suffix_text seg small
tail_text Init seg small = IsUtf8-append (codes "_init") (segment_suffix seg) (IsUtf8-are_ascii (codes "_init") refl) (suffix_text seg small)

name_text : (incr : Bool) (name : List ℕ) → IsUtf8 name → IsUtf8 (file_prefix incr ++ name)
name_text false name plain = plain
name_text true name plain = IsUtf8-append (codes "INCREMENTAL.") name (IsUtf8-are_ascii (codes "INCREMENTAL.") refl) plain

pub path_text : (fork : ForkId) (seg : ℕ) (incr : Bool) → IsNamed fork seg → IsUtf8 (fork_path_bytes fork seg incr)
path_text fork seg incr named =
    let name = file_prefix incr ++ plain_name fork.rel.rel fork.kind seg in
    IsUtf8-append (codes "base/") (decimal fork.rel.db ++ (47 ∷ name)) (IsUtf8-are_ascii (codes "base/") refl)
    (IsUtf8-append (decimal fork.rel.db) (47 ∷ name) (decimal_text fork.rel.db (omega (arith, named.db_fits)))
    (ascii_front 47 name (omega arith)
    (name_text incr (plain_name fork.rel.rel fork.kind seg)
    (IsUtf8-append (decimal fork.rel.rel) (file_tail fork.kind seg) (decimal_text fork.rel.rel (omega (arith, named.rel_fits))) (tail_text fork.kind seg (omega (arith, named.seg_fits)))))))

-- ---- paths

abbrev is_slash : ℕ → Bool
is_slash b = b == 47

-- a part without a slash, before one
split_once : (front rest : List ℕ) → AllByRecursion (λ b. is_slash b ≡ false) front → slice_split is_slash (front ++ (47 ∷ rest)) ≡ front ∷ slice_split is_slash rest
split_once [] rest free = refl
split_once (b ∷ front) rest free =
    ap (λ t. cond t ([] ∷ slice_split is_slash (front ++ (47 ∷ rest))) (onto_first b (slice_split is_slash (front ++ (47 ∷ rest))))) free.0
    ∙ ap (onto_first b) (split_once front rest free.1)

split_last : (part : List ℕ) → AllByRecursion (λ b. is_slash b ≡ false) part → slice_split is_slash part ≡ part ∷ []
split_last [] free = refl
split_last (b ∷ part) free = ap (λ t. cond t ([] ∷ slice_split is_slash part) (onto_first b (slice_split is_slash part))) free.0 ∙ ap (onto_first b) (split_last part free.1)

no_slash : (c : ℕ) → is_ascii_digit c ≡ true → c ≡ 47 → ⊥
no_slash c digit e = let never : false ≡ true = ap is_ascii_digit (sym e) ∙ digit in cc

no_point : (c : ℕ) → is_ascii_digit c ≡ true → c ≡ 46 → ⊥
no_point c digit e = let never : false ≡ true = ap is_ascii_digit (sym e) ∙ digit in cc

digit_not : (c : ℕ) → is_ascii_digit c ≡ true → (is_slash c ≡ false) × ((c == 46) ≡ false)
digit_not c e = (ne_eqb c 47 (no_slash c e), ne_eqb c 46 (no_point c e))

digits_free : (text : List ℕ) → all_digits text ≡ true → AllByRecursion (λ b. is_slash b ≡ false) text
digits_free [] e = tt
digits_free (c ∷ text) e =
    let p = and_parts (is_ascii_digit c) (all_digits text) e in
    ((digit_not c p.0).0, digits_free text p.1)

free_append : (a b : List ℕ) → AllByRecursion (λ c. is_slash c ≡ false) a → AllByRecursion (λ c. is_slash c ≡ false) b → AllByRecursion (λ c. is_slash c ≡ false) (a ++ b)
free_append [] b x y = y
free_append (c ∷ a) b x y = (x.0, free_append a b x.1 y)

suffix_free : (seg : ℕ) → seg < 2 ^ 64 → AllByRecursion (λ c. is_slash c ≡ false) (segment_suffix seg)
suffix_free zero small = tt
suffix_free (suc seg) small =
    subst (AllByRecursion (λ c. is_slash c ≡ false)) (sym (suffix_some (suc seg) (λ z. omega (arith, z)))) (refl, digits_free (decimal (suc seg)) (decimal_is_digits (suc seg) small))

tail_free : (kind : ForkKind) (seg : ℕ) → seg < 2 ^ 64 → AllByRecursion (λ c. is_slash c ≡ false) (file_tail kind seg)
tail_free Main seg small = suffix_free seg small
tail_free Init seg small = (refl, (refl, (refl, (refl, (refl, suffix_free seg small)))))

-- a part that begins with another byte than a point
good_part : (c : ℕ) (part : List ℕ) → (c == 46) ≡ false → is_component (c ∷ part) ≡ true
good_part c part e =
    and_from (not (length (c ∷ part) == 0)) (not (bytes_eq (c ∷ part) (codes ".."))) (ap not (ne_eqb (length (c ∷ part)) 0 (λ z. omega (arith, z)))) (ap (λ b. not (b && bytes_eq part (codes "."))) e)

digits_part : (text rest : List ℕ) → all_digits text ≡ true → 0 < length text → is_component (text ++ rest) ≡ true
digits_part [] rest e some = absurd (omega (arith, some))
digits_part (c ∷ text) rest e some = good_part c (text ++ rest) (digit_not c (and_parts (is_ascii_digit c) (all_digits text) e).0).1

three : (a b c : List ℕ) → is_component a ≡ true → is_component b ≡ true → is_component c ≡ true → list_all is_component (a ∷ b ∷ c ∷ []) ≡ true
three a b c x y z = and_from (is_component a) (list_all is_component (b ∷ c ∷ [])) x (and_from (is_component b) (list_all is_component (c ∷ [])) y (and_from (is_component c) true z refl))

-- the name of a file, plain or incremental
name_free : (incr : Bool) (name : List ℕ) → AllByRecursion (λ c. is_slash c ≡ false) name → AllByRecursion (λ c. is_slash c ≡ false) (file_prefix incr ++ name)
name_free false name free = free
name_free true name free = (refl, (refl, (refl, (refl, (refl, (refl, (refl, (refl, (refl, (refl, (refl, (refl, free))))))))))))

name_part : (incr : Bool) (name : List ℕ) → is_component name ≡ true → is_component (file_prefix incr ++ name) ≡ true
name_part false name good = good
name_part true name good = good_part 73 (codes "NCREMENTAL." ++ name) refl

pub good_path : (fork : ForkId) (seg : ℕ) (incr : Bool) → IsNamed fork seg → is_path (fork_path_bytes fork seg incr) ≡ true
good_path fork seg incr named =
    let db = decimal fork.rel.db in
    let rel = decimal fork.rel.rel in
    let tail = file_tail fork.kind seg in
    let name = file_prefix incr ++ (rel ++ tail) in
    let db_small : fork.rel.db < 2 ^ 64 = omega (arith, named.db_fits) in
    let rel_small : fork.rel.rel < 2 ^ 64 = omega (arith, named.rel_fits) in
    let db_digits = decimal_is_digits fork.rel.db db_small in
    let rel_digits = decimal_is_digits fork.rel.rel rel_small in
    let free = name_free incr (rel ++ tail) (free_append rel tail (digits_free rel rel_digits) (tail_free fork.kind seg (omega (arith, named.seg_fits)))) in
    let parts : slice_split is_slash (fork_path_bytes fork seg incr) ≡ codes "base" ∷ db ∷ name ∷ [] =
    split_once (codes "base") (db ++ (47 ∷ name)) (refl, (refl, (refl, (refl, tt))))
    ∙ ap (λ (l : List (List ℕ)). codes "base" ∷ l) (split_once db name (digits_free db db_digits)
    ∙ ap (λ (l : List (List ℕ)). db ∷ l) (split_last name free)) in
    ap (list_all is_component) parts
    ∙ three (codes "base") db name refl (subst (λ (x : List ℕ). is_component x ≡ true) (append-nil db) (digits_part db [] db_digits (decimal_nonempty fork.rel.db db_small)))
    (name_part incr (rel ++ tail) (digits_part rel tail rel_digits (decimal_nonempty fork.rel.rel rel_small)))

-- a fork's path is no other name
pub never_named : (fork : ForkId) (seg : ℕ) (incr : Bool) (name : List ℕ) → get_or name 2 0 ≢ 115 → fork_path_bytes fork seg incr ≢ name
never_named fork seg incr name other e = other (sym (ap (λ (x : List ℕ). get_or x 2 0) e))
