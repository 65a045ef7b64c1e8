-- The lines of a manifest: the last one has the SHA-256 of all bytes before it (Backup Manifest
-- Format, Manifest-Checksum; that the line has just this form: profile).
use Rattle.std.specs.Prelude.{◌≡◌, ℕ, List, [], ◌∷◌, ◌++◌, length, codes, Ok}
use Rattle.hex.specs.Hex.{decode_of}
use Rattle.sha2.specs.Sha256.{sha256}

-- what stands before and behind the digits in the last line
abbrev pub line_front : List ℕ
line_front = codes "\"Manifest-Checksum\": \""

abbrev pub line_back : List ℕ
line_back = codes "\"}\n"

-- the last byte is a line end
abbrev pub EndsLine : List ℕ → Type 0
EndsLine lines = (front : List ℕ) × (lines ≡ front ++ (10 ∷ []))

-- some lines, and a last line with 64 hexadecimal digits, in either case, that spell a sum
pub record IsLined (bytes lines sum : List ℕ) : Type 0 where
  pub digits : List ℕ
  pub spelled : bytes ≡ lines ++ (line_front ++ (digits ++ line_back))
  pub ended : EndsLine lines
  pub long : length digits ≡ 64
  pub said : decode_of digits ≡ Ok sum

-- the last line has the sum of all bytes before it
abbrev pub IsSummed : List ℕ → Type 0
IsSummed bytes = (lines : List ℕ) × IsLined bytes lines (sha256 lines)
