-- The text of a manifest of version 2 (Backup Manifest Format; the spaces and the order: profile).
use Rattle.std.specs.Prelude.{◌≡◌, ℕ, ◌<◌, true, List, [], ◌∷◌, ◌++◌, map, codes, decimal, Option, Some, None, IsSome, All}
use Rattle.std.specs.Str.{IsUtf8}
use Rattle.std.specs.List.Sorted.{IsStrictlySortedBy}
use Rattle.std.specs.Ordering.{nat_cmp}
use Rattle.std.specs.Cmp.Lexicographic.{slice_cmp}
use Rattle.sha2.specs.Sha256.{sha256}
use Rattle.hex.specs.Hex.{encode_lower}
use Rattle.json.specs.Print.{quoted}
use Rattle.lsn_core.specs.Names.{lsn_bytes}
use Rattle.manifest.specs.Kinds.{kind_name, is_sum}
use Rattle.manifest.specs.Lines.{line_front, line_back}
use Rattle.manifest.specs.Listing.{Listing}
use Rattle.manifest.specs.Shape.{is_path}
use Rattle.manifest.specs.declared.listing.FileRow.{FileRow}

-- the line of a file, whose texts are written as JSON already, without what ends it
unfoldable pub line_of : List ℕ → ℕ → List ℕ → List ℕ → List ℕ → List ℕ
line_of path size modified kind sum =
    codes "{ \"Path\": " ++ (path
    ++ (codes ", \"Size\": " ++ (decimal size
    ++ (codes ", \"Last-Modified\": " ++ (modified
    ++ (codes ", \"Checksum-Algorithm\": " ++ (kind
    ++ (codes ", \"Checksum\": " ++ (sum
    ++ codes " }")))))))))

-- the line of a file, without what ends it
abbrev pub row_text : FileRow → List ℕ
row_text row =
    line_of (quoted row.path) row.size (quoted row.modified) (quoted (kind_name row.kind))
    (quoted row.sum)

-- what ends the line of a file with these files behind it: the last one has no comma
abbrev pub row_end : List FileRow → List ℕ
row_end [] = codes "\n"
row_end (next ∷ rows) = codes ",\n"

-- the lines of files
abbrev pub rows_text : List FileRow → List ℕ
rows_text [] = []
rows_text (row ∷ rows) = row_text row ++ (row_end rows ++ rows_text rows)

-- the lines before those of the files
unfoldable pub head_text : ℕ → List ℕ
head_text system =
    codes "{ \"PostgreSQL-Backup-Manifest-Version\": 2,\n\"System-Identifier\": "
    ++ (decimal system ++ codes ",\n\"Files\": [\n")

-- a manifest of version 2 has a system identifier
abbrev pub head_of : Option ℕ → List ℕ
head_of None = []
head_of (Some system) = head_text system

-- the lines behind those of the files, up to that of the sum, with two LSNs as JSON writes them
unfoldable pub tail_of : List ℕ → List ℕ → List ℕ
tail_of start end =
    codes "],\n\"WAL-Ranges\": [\n{ \"Timeline\": 1, \"Start-LSN\": " ++ (start
    ++ (codes ", \"End-LSN\": " ++ (end
    ++ codes " }\n],\n")))

-- all lines before that of the sum
abbrev pub lines_text : Listing → List ℕ
lines_text m =
    head_of m.system
    ++ (rows_text m.files ++ tail_of (quoted (lsn_bytes m.start)) (quoted (lsn_bytes m.end)))

-- the last line, with the digits of a sum in lower case
abbrev pub last_line : List ℕ → List ℕ
last_line sum = line_front ++ (encode_lower sum ++ line_back)

-- the whole text
abbrev pub manifest_text : Listing → List ℕ
manifest_text m = lines_text m ++ last_line (sha256 (lines_text m))

-- a row that can be written and is read again: a good path, texts, and a sum of the row's kind
pub record IsWritableRow (row : FileRow) : Type 0 where
  pub path : IsUtf8 row.path
  pub good_path : is_path row.path ≡ true
  pub modified : IsUtf8 row.modified
  pub sum : is_sum row.kind row.sum ≡ true

-- a manifest that can be written and is read again: of version 2, with its rows in byte order of
-- their paths, no path twice, and a range that isn't empty
pub record IsWritable (m : Listing) : Type 0 where
  pub version : m.version ≡ 2
  pub system : IsSome m.system
  pub rows : All IsWritableRow m.files
  pub order : IsStrictlySortedBy (slice_cmp nat_cmp) (map (λ row. row.path) m.files)
  pub rises : m.start < m.end
