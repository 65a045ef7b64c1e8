-- The rows of a manifest, as they are made.
use Rattle.std.specs.Prelude.{◌≡◌, ℕ, ◌^◌, ◌<◌, List, map, Ok}
use Rattle.std.specs.List.{All, IsDistinct}
use Rattle.std.specs.List.Sorted.{IsPermutation, IsStrictlySortedBy}
use Rattle.std.specs.Ordering.{nat_cmp, eq_by_cmp}
use Rattle.std.specs.Cmp.Lexicographic.{slice_cmp}
use Rattle.hex.specs.Hex.{encode_lower}
use Rattle.lsn_core.specs.declared.lsn.Lsn.{Lsn}
use Rattle.manifest.specs.Reading.{ReadAnswers}
use Rattle.manifest.specs.Text.{IsWritableRow, manifest_text}
use Rattle.manifest.specs.declared.kinds.SumKind.TheVariants.{Sha256}
use Rattle.manifest.specs.declared.listing.FileRow.{FileRow}
use Rattle.backup_files.specs.Directory.{listing_with}

abbrev pub path_of : FileRow → List ℕ
path_of row = row.path

-- the row of a file with a SHA-256 and so many bytes
abbrev pub row_with : List ℕ → ℕ → List ℕ → List ℕ → FileRow
row_with path size modified sum = record {
  path = path;
  size = size;
  modified = modified;
  kind = Sha256;
  sum = encode_lower sum;
}

-- rows that a manifest can list: with distinct paths, and sizes below 2^64
pub record AreListable (rows : List FileRow) : Type 0 where
  pub writable : All IsWritableRow rows
  pub distinct : IsDistinct (eq_by_cmp (slice_cmp nat_cmp)) (map path_of rows)
  pub small : All (λ row. row.size < 2 ^ 64) rows

-- a manifest that lists them, in order of their paths, and is read as it was written
pub record ListsRows (system : ℕ) (rows : List FileRow) (start end : Lsn) (text : List ℕ)
    : Type 0 where
  pub sorted : List FileRow
  pub same : IsPermutation rows sorted
  pub order : IsStrictlySortedBy (slice_cmp nat_cmp) (map path_of sorted)
  pub text_is : text ≡ manifest_text (listing_with system sorted start end)
  pub read : ReadAnswers text (Ok (listing_with system sorted start end))
