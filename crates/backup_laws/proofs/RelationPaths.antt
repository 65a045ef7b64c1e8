-- The plain path of an incremental file is text that a manifest can have, where the incremental one is.
use Rattle.std.proofs.Common.{◌≡◌, ℕ, ◌<◌, Bool, true, false, cond, not, ◌||◌, ◌&&◌, List, [], ◌∷◌, ◌++◌, length, get_or, codes, nat_eq, refl, sym, ap, ap₂, subst, ◌∙◌, arith}
use Rattle.std.proofs.Math.Seq.{drop-append_seam, get_or-append_seam}
use Rattle.std.specs.Prelude.{◌==◌}
use Rattle.std.specs.Str.{IsUtf8, bytes_eq}
use Rattle.std.specs.List.{list_all, list_any, starts_with, slice_split, onto_first}
use Rattle.std.proofs.lemmas.Bool.{and_from, and_parts, ne_eqb}
use Rattle.std.proofs.lemmas.List.{length-append, take_at}
use Rattle.std.proofs.lemmas.List.Folds.{list_all-append}
use Rattle.std.proofs.lemmas.List.Splits.{length-slice_split}
use Rattle.std.proofs.lemmas.Str.{IsUtf8-append, IsUtf8-take, IsUtf8-drop, IsCharBoundary-before_ascii, IsCharBoundary-after_ascii}
use Rattle.lsn_core.specs.Names.{file_prefix}
use Rattle.manifest.specs.Shape.{is_component, is_path}
use Rattle.backup_files.proofs.TimeTexts.{ascii_front}
use Rattle.chain_files.specs.Paths.{file_path, is_slash, is_odd_name, IsRelationFile}
use Rattle.chain_files.proofs.Placed.{prefix_flat}
use Rattle.directory_files.proofs.Standing.{neither}

-- ---- UTF-8

-- text is cut in two at a slash
front_text : (front rest : List ℕ) → IsUtf8 (front ++ (47 ∷ rest)) → IsUtf8 front × IsUtf8 rest
front_text front rest text =
    let all = front ++ (47 ∷ rest) in
    let long : length front < length all = omega (arith, length-append front (47 ∷ rest)) in
    let small : get_or all (length front) 0 < 128 = omega (arith, get_or-append_seam front 47 rest 0) in
    let cut = IsCharBoundary-before_ascii all (length front) long small in
    let behind : IsUtf8 (47 ∷ rest) = subst IsUtf8 (drop-append_seam front (47 ∷ rest)) (IsUtf8-drop all (length front) text cut) in (
      subst IsUtf8 (take_at front (47 ∷ rest) (length front) refl) (IsUtf8-take all (length front) text cut),
      IsUtf8-drop (47 ∷ rest) 1 behind (IsCharBoundary-after_ascii (47 ∷ rest) 0 behind (omega arith) (omega arith)),
    )

-- and behind a prefix
name_text : (name : List ℕ) → IsUtf8 (file_prefix true ++ name) → IsUtf8 name
name_text name text = IsUtf8-drop (file_prefix true ++ name) 12 text (IsCharBoundary-after_ascii (file_prefix true ++ name) 11 text (omega arith) (omega arith))

pub placed_text : (folder name : List ℕ) (incr : Bool) → IsUtf8 (file_path folder name true) → IsUtf8 (file_path folder name incr)
placed_text folder name true text = text
placed_text folder name false text =
    let both = front_text folder (file_prefix true ++ name) text in
    IsUtf8-append folder (47 ∷ name) both.0 (ascii_front 47 name (omega arith) (name_text name both.1))

-- ---- components

one_part : (last : List ℕ) → list_any is_slash last ≡ false → slice_split is_slash last ≡ last ∷ []
one_part [] flat = refl
one_part (b ∷ last) flat =
    let both = neither (is_slash b) (list_any is_slash last) flat in
    ap (λ (t : Bool). cond t ([] ∷ slice_split is_slash last) (onto_first b (slice_split is_slash last))) both.0 ∙ ap (onto_first b) (one_part last both.1)

onto_joined : (b : ℕ) (parts : List (List ℕ)) (last : List ℕ) → 0 < length parts → onto_first b (parts ++ (last ∷ [])) ≡ onto_first b parts ++ (last ∷ [])
onto_joined b [] last some = absurd (omega (arith, some))
onto_joined b (p ∷ parts) last some = refl

last_part : (front last : List ℕ) → list_any is_slash last ≡ false → slice_split is_slash (front ++ (47 ∷ last)) ≡ slice_split is_slash front ++ (last ∷ [])
last_part [] last flat = ap (λ (parts : List (List ℕ)). [] ∷ parts) (one_part last flat)
last_part (b ∷ front) last flat =
    ap (λ (parts : List (List ℕ)). cond (is_slash b) ([] ∷ parts) (onto_first b parts)) (last_part front last flat) ∙ by (is_slash b)
  where
    by : (t : Bool) → cond t ([] ∷ (slice_split is_slash front ++ (last ∷ []))) (onto_first b (slice_split is_slash front ++ (last ∷ []))) ≡ cond t ([] ∷ slice_split is_slash front) (onto_first b (slice_split is_slash front)) ++ (last ∷ [])
    by true = refl
    by false = onto_joined b (slice_split is_slash front) last (omega (arith, length-slice_split is_slash front))

component : (name : List ℕ) → is_odd_name name ≡ false → is_component name ≡ true
component name even =
    let first = neither (bytes_eq name []) (bytes_eq name (codes ".") || (bytes_eq name (codes "..") || starts_with nat_eq name (file_prefix true))) even in
    let next = neither (bytes_eq name (codes ".")) (bytes_eq name (codes "..") || starts_with nat_eq name (file_prefix true)) first.1 in
    let third = neither (bytes_eq name (codes "..")) (starts_with nat_eq name (file_prefix true)) next.1 in
    by name first.0 third.0
  where
    by : (n : List ℕ) → bytes_eq n [] ≡ false → bytes_eq n (codes "..") ≡ false → is_component n ≡ true
    by [] e f = absurd cc
    by (c ∷ n) e f = and_from (not (length (c ∷ n) == 0)) (not (bytes_eq (c ∷ n) (codes ".."))) (ap not (ne_eqb (length (c ∷ n)) 0 (λ z. omega (arith, z)))) (ap not f)

parts_of : (folder last : List ℕ) → list_any is_slash last ≡ false → is_path (folder ++ (47 ∷ last)) ≡ (list_all is_component (slice_split is_slash folder) && (is_component last && true))
parts_of folder last flat = ap (list_all is_component) (last_part folder last flat) ∙ list_all-append is_component (slice_split is_slash folder) (last ∷ [])

pub placed_good : (folder name : List ℕ) (incr : Bool) → IsRelationFile folder name → is_path (file_path folder name true) ≡ true → is_path (file_path folder name incr) ≡ true
placed_good folder name true is good = good
placed_good folder name false is good =
    let both = and_parts (list_all is_component (slice_split is_slash folder)) (is_component (file_prefix true ++ name) && true) (sym (parts_of folder (file_prefix true ++ name) (prefix_flat true name is.flat)) ∙ good) in
    parts_of folder name is.flat ∙ ap₂ (λ (a b : Bool). a && (b && true)) both.0 (component name is.even)
