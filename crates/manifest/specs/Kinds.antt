-- The kinds of sums that a manifest names.
use Rattle.std.specs.Prelude.{ℕ, Bool, List, [], ◌∷◌, length, codes, Option, Some, None, ◌==◌, ◌&&◌, if◌then◌else◌}
use Rattle.std.specs.Str.{bytes_eq}
use Rattle.lsn_core.specs.byte_words.Numbers.{◌>>=◌}
use Rattle.lsn_core.specs.text_numbers.Numbers.{all_hex_digits}
use Rattle.manifest.specs.declared.kinds.SumKind.{SumKind}
use Rattle.manifest.specs.declared.kinds.SumKind.TheVariants.{Sha224, Sha256, Sha384, Sha512}
use Rattle.manifest.specs.declared.listing.FileRow.{FileRow}
use Rattle.manifest.specs.declared.shape.RawRow.{RawRow}

-- the names of the SHA-2 functions (Backup Manifest Format, Checksum-Algorithm)
abbrev pub kind_name : SumKind → List ℕ
kind_name Sha224 = codes "SHA224"
kind_name Sha256 = codes "SHA256"
kind_name Sha384 = codes "SHA384"
kind_name Sha512 = codes "SHA512"

-- how many hexadecimal digits their sums have (FIPS 180-4)
abbrev pub sum_digits : SumKind → ℕ
sum_digits Sha224 = 56
sum_digits Sha256 = 64
sum_digits Sha384 = 96
sum_digits Sha512 = 128

-- the kind of a name
abbrev pub kind_in : List ℕ → Option SumKind
kind_in name =
    if bytes_eq name (codes "SHA224") then Some Sha224
    else if bytes_eq name (codes "SHA256") then Some Sha256
    else if bytes_eq name (codes "SHA384") then Some Sha384
    else if bytes_eq name (codes "SHA512") then Some Sha512
    else None

-- the digits of a sum of a kind, in either case
abbrev pub is_sum : SumKind → List ℕ → Bool
is_sum kind text = (length text == sum_digits kind) && all_hex_digits text

-- the file of a row, of which the kind was a text
abbrev pub file_with : RawRow → SumKind → FileRow
file_with row kind =
    record { path = row.path; size = row.size; modified = row.modified; kind = kind; sum = row.sum }

-- where the row's kind is known, and its sum is of that kind
abbrev pub file_in : RawRow → Option FileRow
file_in row = do
  kind ← kind_in row.kind
  if is_sum kind row.sum then Some (file_with row kind) else None

-- the files of all rows
abbrev pub all_files : List RawRow → Option (List FileRow)
all_files [] = Some []
all_files (row ∷ rows) = do
  file ← file_in row
  files ← all_files rows
  Some (file ∷ files)
