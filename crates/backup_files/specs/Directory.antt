-- What the directory of any backup has beside the files of its forks: the label, and the manifest
-- that lists the others (PostgreSQL manual, Backup Manifest Format).
use Rattle.std.specs.Prelude.{ℕ, List, map, length, codes, Some}
use Rattle.std.specs.List.Sorted.{IsPermutation, IsStrictlySortedBy}
use Rattle.std.specs.Ordering.{nat_cmp}
use Rattle.std.specs.Cmp.Lexicographic.{slice_cmp}
use Rattle.std.specs.FinMap.{empty, insert}
use Rattle.sha2.specs.Sha256.{sha256}
use Rattle.hex.specs.Hex.{encode_lower}
use Rattle.lsn_core.specs.Files.{Files}
use Rattle.lsn_core.specs.Store.{with_files}
use Rattle.lsn_core.specs.declared.lsn.Lsn.{Lsn}
use Rattle.manifest.specs.declared.kinds.SumKind.TheVariants.{Sha256}
use Rattle.manifest.specs.declared.listing.FileRow.{FileRow}
use Rattle.manifest.specs.Listing.{Listing}

-- the name of the label's file, and that of the manifest's
abbrev pub label_name : List ℕ
label_name = codes "backup_label"

abbrev pub manifest_name : List ℕ
manifest_name = codes "backup_manifest"

-- ---- what is listed

-- the row of a file, with the text of when it was last modified
abbrev pub row_of : List ℕ → List ℕ × List ℕ → FileRow
row_of modified file = record {
  path = file.0;
  size = length file.1;
  modified = modified;
  kind = Sha256;
  sum = encode_lower (sha256 file.1);
}

-- rows list these files and no others, each once, in byte order of their paths
pub record AreRowsOf (modified : List ℕ) (files : List (List ℕ × List ℕ)) (rows : List FileRow)
    : Type 0 where
  pub same : IsPermutation (map (row_of modified) files) rows
  pub order : IsStrictlySortedBy (slice_cmp nat_cmp) (map (λ row. row.path) rows)

-- a manifest of version 2 with these rows, of a WAL from a place to another
abbrev pub listing_with : ℕ → List FileRow → Lsn → Lsn → Listing
listing_with system rows start end = record {
  version = 2;
  system = Some system;
  files = rows;
  start = start.0;
  end = end.0;
}

-- ---- the directory

-- files, a label and a manifest, and no others
abbrev pub directory_with : List (List ℕ × List ℕ) → List ℕ → List ℕ → Files
directory_with put label manifest =
    insert (insert (with_files empty put) label_name label) manifest_name manifest
