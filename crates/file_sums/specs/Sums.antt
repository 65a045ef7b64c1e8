-- The sums of files.
use Rattle.std.specs.Prelude.{◌≡◌, ℕ, Bool, false, List, Result, Ok, Err}
use Rattle.std.specs.Str.{bytes_eq}
use Rattle.sha2.specs.Sha256.{sha224, sha256}
use Rattle.sha2.specs.Sha512.{sha384, sha512}
use Rattle.hex.specs.Hex.{decode_of}
use Rattle.hex.specs.declared.error.FromHexError.{FromHexError}
use Rattle.manifest.specs.declared.kinds.SumKind.{SumKind}
use Rattle.manifest.specs.declared.kinds.SumKind.TheVariants.{Sha224, Sha256, Sha384, Sha512}
use Rattle.manifest.specs.declared.listing.FileRow.{FileRow}

-- the sum of some bytes, by its kind (FIPS 180-4)
abbrev pub sum_of : SumKind → List ℕ → List ℕ
sum_of Sha224 bytes = sha224 bytes
sum_of Sha256 bytes = sha256 bytes
sum_of Sha384 bytes = sha384 bytes
sum_of Sha512 bytes = sha512 bytes

-- the digits of a row, in either case, are those of the sum of some bytes
abbrev pub HasSum : FileRow → List ℕ → Type 0
HasSum row bytes = decode_of row.sum ≡ Ok (sum_of row.kind bytes)

-- whether what digits decode to is a sum
abbrev pub is_decoded : List ℕ → Result (List ℕ) FromHexError → Bool
is_decoded sum (Ok bytes) = bytes_eq bytes sum
is_decoded sum (Err fault) = false

-- whether digits, in either case, are those of a sum
abbrev pub says_sum : List ℕ → List ℕ → Bool
says_sum digits sum = is_decoded sum (decode_of digits)

-- whether those of a row are
abbrev pub has_sum : FileRow → List ℕ → Bool
has_sum row bytes = says_sum row.sum (sum_of row.kind bytes)
