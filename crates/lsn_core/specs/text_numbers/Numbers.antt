-- Numbers written in decimal and in hexadecimal digits.
use Rattle.std.specs.Prelude.{◌≡◌, ℕ, ◌-◌, ◌^◌, ◌<◌, Bool, true, List, ◌++◌, length, replicate, Option, Some, None, nat_le, nat_lt, ◌&&◌, ◌||◌, if◌then◌else◌}
use Rattle.std.specs.List.{list_all, prefix_len}
use Rattle.std.specs.Char.{is_ascii_digit, is_ascii_hexdigit}
use Rattle.std.specs.Fmt.{decimal, digits}
use Rattle.std.specs.Int.{is_in_range}
use Rattle.std.specs.Str.Parse.{digits_value}

-- each byte is a decimal digit
abbrev pub all_digits : List ℕ → Bool
all_digits text = list_all is_ascii_digit text

-- 1 to 10 decimal digits of a number below 2^32; leading zeros may stand
abbrev pub is_number : List ℕ → Bool
is_number text =
    nat_le 1 (length text) && (nat_le (length text) 10
    && (all_digits text && nat_lt (digits_value 10 text) (2 ^ 32)))

-- the number that such digits write
abbrev pub number_of : List ℕ → Option ℕ
number_of text = if is_number text then Some (digits_value 10 text) else None

-- a text with a number at its front, and what stands behind the number's last digit
pub record IsFront (text : List ℕ) (n : ℕ) (tail : List ℕ) : Type 0 where
  pub parts : text ≡ decimal n ++ tail
  pub apart : prefix_len is_ascii_digit tail ≡ 0

-- no number below a limit stands at the front
abbrev pub HasNoFront : ℕ → List ℕ → Type 0
HasNoFront limit text = (n : ℕ) (tail : List ℕ) → n < limit → IsFront text n tail → ⊥

-- each byte is a hexadecimal digit, in either case
abbrev pub all_hex_digits : List ℕ → Bool
all_hex_digits text = list_all is_ascii_hexdigit text

-- each byte is a hexadecimal digit in upper case
abbrev pub is_upper_digit : ℕ → Bool
is_upper_digit b = is_in_range 48 57 b || is_in_range 65 70 b

abbrev pub all_upper_digits : List ℕ → Bool
all_upper_digits text = list_all is_upper_digit text

-- 1 to 8 hexadecimal digits; leading zeros may stand
abbrev pub is_hex_number : List ℕ → Bool
is_hex_number text = nat_le 1 (length text) && (nat_le (length text) 8 && all_hex_digits text)

-- the number that such digits write
abbrev pub hex_number_of : List ℕ → Option ℕ
hex_number_of text = if is_hex_number text then Some (digits_value 16 text) else None

-- eight upper-case hexadecimal digits
abbrev pub eight_digits : ℕ → List ℕ
eight_digits n = replicate (8 - length (digits 16 true n)) 48 ++ digits 16 true n

-- no eight digits stand at the front
abbrev pub HasNoEight : List ℕ → Type 0
HasNoEight text = (n : ℕ) (tail : List ℕ) → n < 2 ^ 32 → text ≡ eight_digits n ++ tail → ⊥
