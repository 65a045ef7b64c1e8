-- A written manifest is read as itself.
use Rattle.std.proofs.Common.{◌≡◌, ◌<◌, ◌^◌, ℕ, true, List, [], ◌∷◌, ◌++◌, map, Option, Some, None, IsSome, IfSome, All, Ok, true≢false, inr, refl, sym, ap, ap₂, subst, ◌∙◌, arith}
use Rattle.std.specs.List.Sorted.{IsStrictlySortedBy}
use Rattle.std.specs.Ordering.{nat_cmp}
use Rattle.std.specs.Cmp.Lexicographic.{slice_cmp}
use Rattle.std.proofs.lemmas.List.Elements.{All-head, All-tail}
use Rattle.std.proofs.lemmas.List.Sorted.{IsPermutation-refl}
use Rattle.sha2.specs.Sha256.{sha256}
use Rattle.sha2.proofs.Facts256.{length-sha256}
use Rattle.hex.specs.Hex.{encode_lower, lower_digits}
use Rattle.hex.proofs.HexLemmas.{length-encode_with}
use Rattle.json.specs.Print.{quoted}
use Rattle.serde_json.specs.Read.{read}
use Rattle.lsn_core.specs.Names.{lsn_bytes}
use Rattle.lsn_core.proofs.LsnTexts.{printed}
use Rattle.manifest.specs.Kinds.{kind_name, kind_in, is_sum, file_in, all_files}
use Rattle.manifest.specs.Laws.{HasSmallNumbers}
use Rattle.manifest.specs.Lines.{IsLined}
use Rattle.manifest.specs.Listing.{Listing}
use Rattle.manifest.specs.Reading.{IsManifest, ReadAnswers}
use Rattle.manifest.specs.Shape.{Parts, IsParts, path_of}
use Rattle.manifest.specs.Text.{rows_text, head_of, tail_of, last_line, lines_text, manifest_text, IsWritableRow, IsWritable}
use Rattle.manifest.specs.declared.kinds.SumKind.{SumKind}
use Rattle.manifest.specs.declared.kinds.SumKind.TheVariants.{Sha224, Sha256, Sha384, Sha512}
use Rattle.manifest.specs.declared.listing.FileRow.{FileRow}
use Rattle.manifest.proofs.Digest.{spelled}
use Rattle.manifest.proofs.Lexed.{top_text, Fits64}
use Rattle.manifest.proofs.ReadBack.{top_data, read-top, raw_of, range_with, HavePaths, top-again}
use Rattle.manifest.proofs.Texts.{digits_plain}
use Rattle.manifest.proofs.Written.{text-is, lines-end, utf8-text}

-- the last line has the sum
lined : (m : Listing) → IsLined (manifest_text m) (lines_text m) (sha256 (lines_text m))
lined m =
    let lines = lines_text m in
    record {
      digits = encode_lower (sha256 lines);
      spelled = refl;
      ended = lines-end m;
      long = omega (arith, length-encode_with lower_digits (sha256 lines), length-sha256 lines);
      said = spelled lines;
    }

have_paths : (rows : List FileRow) → All IsWritableRow rows → HavePaths rows
have_paths [] is = tt
have_paths (row ∷ rows) is = ((All-head IsWritableRow row rows is).good_path, have_paths rows (All-tail IsWritableRow row rows is))

abbrev IsSmall : FileRow → Type 0
IsSmall row = row.size < 2 ^ 64

fit : (rows : List FileRow) → All IsSmall rows → Fits64 rows
fit [] small = tt
fit (row ∷ rows) small = (All-head IsSmall row rows small, fit rows (All-tail IsSmall row rows small))

kind_again : (kind : SumKind) → kind_in (kind_name kind) ≡ Some kind
kind_again Sha224 = refl
kind_again Sha256 = refl
kind_again Sha384 = refl
kind_again Sha512 = refl

file_again : (row : FileRow) → is_sum row.kind row.sum ≡ true → file_in (raw_of row) ≡ Some row
file_again row good = rw (kind_again row.kind, good) refl

files_again : (rows : List FileRow) → All IsWritableRow rows → all_files (map raw_of rows) ≡ Some rows
files_again [] is = refl
files_again (row ∷ rows) is = rw (file_again row (All-head IsWritableRow row rows is).sum, files_again rows (All-tail IsWritableRow row rows is)) refl

same_paths : (rows : List FileRow) → map (λ row. row.path) rows ≡ map path_of (map raw_of rows)
same_paths [] = refl
same_paths (row ∷ rows) = ap (λ (l : List (List ℕ)). row.path ∷ l) (same_paths rows)

-- a manifest with this system identifier
whole : (m : Listing) (system : ℕ) → m.system ≡ Some system
    → manifest_text m ≡ top_text system m.files (lsn_bytes m.start) (lsn_bytes m.end) (encode_lower (sha256 (lines_text m)))
whole m system e =
    let sum = sha256 (lines_text m) in
    ap (λ (o : Option ℕ). (head_of o ++ (rows_text m.files ++ tail_of (quoted (lsn_bytes m.start)) (quoted (lsn_bytes m.end)))) ++ last_line sum) e
    ∙ text-is system m.files (lsn_bytes m.start) (lsn_bytes m.end) (encode_lower sum) (digits_plain (encode_lower sum) sum (spelled (lines_text m)))

abbrev parts_of : Listing → ℕ → Parts
parts_of m system = record { version = 2; system = Some system; rows = map raw_of m.files; timeline = 1; start = m.start; end = m.end }

is_manifest : (m : Listing) (system : ℕ) (sum : List ℕ) → m.system ≡ Some system → IsWritable m → HasSmallNumbers m
    → IsManifest (top_data system m.files (lsn_bytes m.start) (lsn_bytes m.end) sum) m
is_manifest m system sum e is small =
    let d = top_data system m.files (lsn_bytes m.start) (lsn_bytes m.end) sum in
    let order : IsStrictlySortedBy (slice_cmp nat_cmp) (map path_of (map raw_of m.files)) = subst (IsStrictlySortedBy (slice_cmp nat_cmp)) (same_paths m.files) is.order in
    let parts : IsParts d (parts_of m system) = record {
      top = record { system = Some system; rows = map raw_of m.files; range = range_with (lsn_bytes m.start) (lsn_bytes m.end) };
      read = top-again system m.files (lsn_bytes m.start) (lsn_bytes m.end) sum (have_paths m.files is.rows);
      system = refl;
      rows = (IsPermutation-refl (map raw_of m.files), order);
      timeline = refl;
      range = record { start_text = printed m.start small.start; end_text = printed m.end small.end; rises = is.rises };
    } in (
      parts_of m system,
      m.files,
      record { version = refl; known = inr refl; shape = parts },
      files_again m.files is.rows,
      refl,
      ap₂ (λ (v : ℕ) (s : Option ℕ). record { version = v; system = s; files = m.files; start = m.start; end = m.end }) is.version e,
    )

read_again : (m : Listing) (system : ℕ) → m.system ≡ Some system → IsWritable m → HasSmallNumbers m → system < 2 ^ 64 → ReadAnswers (manifest_text m) (Ok m)
read_again m system e is small fits =
    let sum = encode_lower (sha256 (lines_text m)) in (
      (lines_text m, lined m),
      (
        top_data system m.files (lsn_bytes m.start) (lsn_bytes m.end) sum,
        (utf8-text m is small, ap read (whole m system e) ∙ read-top system m.files (lsn_bytes m.start) (lsn_bytes m.end) sum fits (fit m.files small.sizes)),
        is_manifest m system sum e is small,
      ),
    )

by_system : (m : Listing) (o : Option ℕ) → m.system ≡ o → IsSome o → IfSome o (λ n. n < 2 ^ 64) → IsWritable m → HasSmallNumbers m → ReadAnswers (manifest_text m) (Ok m)
by_system m None e some fits is small = absurd (true≢false (sym some))
by_system m (Some system) e some fits is small = read_again m system e is small fits

pub written_is_read : (m : Listing) → IsWritable m → HasSmallNumbers m → ReadAnswers (manifest_text m) (Ok m)
written_is_read m is small = by_system m m.system refl is.system small.system is small
