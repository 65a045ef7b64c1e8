-- Digits are text, and JSON leaves them as they are.
use Rattle.std.proofs.Common.{◌≡◌, ◌≢◌, ℕ, ◌^◌, ◌/◌, ◌%◌, ◌<◌, ◌≤◌, true, ◌==◌, List, [], ◌∷◌, length, Ok, refl, arith}
use Rattle.std.specs.Str.{IsUtf8, IsAscii}
use Rattle.std.specs.Fmt.{digits}
use Rattle.std.specs.List.{AllPass}
use Rattle.std.proofs.lemmas.Bool.{and_parts}
use Rattle.std.proofs.lemmas.List.Elements.{All-head, All-tail}
use Rattle.std.proofs.lemmas.Str.{IsUtf8-append, IsUtf8-from_ascii}
use Rattle.json.specs.Print.{escape, escape_byte}
use Rattle.json.proofs.Printed.Strings.{escape_byte_plain}
use Rattle.json.proofs.Printed.Utf8.{IsUtf8-are_ascii}
use Rattle.std.proofs.lemmas.Str.Ascii.{IsAscii-nil, IsAscii-cons}
use Rattle.hex.specs.Hex.{is_hex_digit, decode_of}
use Rattle.hex.proofs.HexLemmas.{decode_of-ok}
use Rattle.lsn_core.specs.text_numbers.Numbers.{all_hex_digits}
use Rattle.lsn_core.proofs.text_numbers.Hexadecimal.{is_text}
use Rattle.lsn_core.proofs.text_numbers.EightDigits.{hex_text}
use Rattle.lsn_core.specs.Names.{lsn_bytes}
use Rattle.manifest.specs.Kinds.{is_sum, sum_digits}
use Rattle.manifest.specs.declared.kinds.SumKind.{SumKind}

pub IsUtf8-lsn : (at : ℕ) → at < 2 ^ 64 → IsUtf8 (lsn_bytes at)
IsUtf8-lsn at small =
    let high : at / 2 ^ 32 < 2 ^ 32 = omega (arith, small) in
    let low : at % 2 ^ 32 < 2 ^ 32 = omega arith in
    IsUtf8-append (digits 16 true (at / 2 ^ 32)) (47 ∷ digits 16 true (at % 2 ^ 32)) (is_text _ (hex_text (at / 2 ^ 32) high).digits)
    (IsUtf8-append (47 ∷ []) (digits 16 true (at % 2 ^ 32)) (IsUtf8-are_ascii (47 ∷ []) refl) (is_text _ (hex_text (at % 2 ^ 32) low).digits))

pub IsUtf8-sum : (kind : SumKind) (text : List ℕ) → is_sum kind text ≡ true → IsUtf8 text
IsUtf8-sum kind text e = is_text text (and_parts (length text == sum_digits kind) (all_hex_digits text) e).1

digit_bounds : (c : ℕ) → is_hex_digit c ≡ true → (48 ≤ c) × (c ≢ 92) × (c < 128)
digit_bounds c e = (grind arith, grind arith, grind arith)

digit_plain : (c : ℕ) → is_hex_digit c ≡ true → escape_byte c ≡ c ∷ []
digit_plain c e = let b = digit_bounds c e in escape_byte_plain c (λ q. omega (arith, b.0, q)) b.1 (omega (arith, b.0))

abbrev IsHex : ℕ → Type 0
IsHex c = is_hex_digit c ≡ true

plain_all : (text : List ℕ) → AllPass is_hex_digit text → escape text ≡ text
plain_all [] h = refl
plain_all (c ∷ text) h =
    let first = digit_plain c (All-head IsHex c text h) in
    let rest = plain_all text (All-tail IsHex c text h) in
    rw (first, rest) refl

ascii_all : (text : List ℕ) → AllPass is_hex_digit text → IsAscii text
ascii_all [] h = IsAscii-nil
ascii_all (c ∷ text) h = IsAscii-cons c text (digit_bounds c (All-head IsHex c text h)).2 (ascii_all text (All-tail IsHex c text h))

-- digits that decode
pub digits_plain : (text bytes : List ℕ) → decode_of text ≡ Ok bytes → escape text ≡ text
digits_plain text bytes e = plain_all text (decode_of-ok text bytes e).1

pub IsUtf8-hex : (text bytes : List ℕ) → decode_of text ≡ Ok bytes → IsUtf8 text
IsUtf8-hex text bytes e = IsUtf8-from_ascii text (ascii_all text (decode_of-ok text bytes e).1)
