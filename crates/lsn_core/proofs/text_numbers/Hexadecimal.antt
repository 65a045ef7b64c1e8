-- What std reads of hexadecimal digits.
use Rattle.std.proofs.Common.{◌≡◌, ◌≢◌, ℕ, ◌^◌, ◌<◌, ◌≤◌, true, Option, Some, None, Result, Ok, Err, List, [], ◌∷◌, length, get_or, nat_le, zero, suc, refl, sym, ap, subst, ◌∙◌, arith, inl, inr, ◌||◌}
use Rattle.std.specs.Str.{IsUtf8, IsAscii}
use Rattle.std.specs.Char.{is_ascii_hexdigit, digit_value}
use Rattle.std.specs.Str.Parse.{AllDigits, digits_value, ParsesUnsigned, IsNumeral}
use Rattle.std.specs.Int.{IsInRange, is_in_range}
use Rattle.std.specs.Result.{result_ok, OkIff}
use Rattle.std.proofs.lemmas.Bool.{and_parts, and_from, or_cases, leb-true, le-leb, lt-ltb, le-ltb, cond-true}
use Rattle.std.proofs.lemmas.Str.{IsUtf8-from_ascii, digit_value_digit}
use Rattle.std.proofs.lemmas.Str.Parse.{without_leading_plus_none}
use Rattle.std.proofs.lemmas.Result.{Ok-from_Ok_iff}
use Rattle.std.proofs.Math.Nat.{pow-le-pow_right}
use Rattle.std.proofs.lemmas.Int.Digits.{digits_value-lt}
use Rattle.lsn_core.specs.text_numbers.Numbers.{all_hex_digits, is_hex_number, hex_number_of}

-- what a hexadecimal digit is
record IsHexDigit (c : ℕ) : Type 0 where
  value : digit_value c < 16
  ascii : c < 128
  no_plus : c ≢ 43

pub in_range : (low high c : ℕ) → is_in_range low high c ≡ true → IsInRange low high c
in_range low high c e = let both = and_parts (nat_le low c) (nat_le c high) e in (leb-true low c both.0, leb-true c high both.1)

low_digit : (c : ℕ) → IsInRange 48 57 c → IsHexDigit c
low_digit c h = record { value = omega (arith, digit_value_digit c h, h.1); ascii = omega (arith, h.1); no_plus = λ e. omega (arith, h.0, e) }

upper_digit : (c : ℕ) → IsInRange 65 70 c → IsHexDigit c
upper_digit c h = record {
  value = rw (le-ltb c 48 (omega (arith, h.0)), le-ltb c 58 (omega (arith, h.0)), le-ltb c 65 h.0, lt-ltb c 91 (omega (arith, h.1))) (omega (arith, h.0, h.1));
  ascii = omega (arith, h.1);
  no_plus = λ e. omega (arith, h.0, e);
}

lower_digit : (c : ℕ) → IsInRange 97 102 c → IsHexDigit c
lower_digit c h = record {
  value =
      rw (le-ltb c 48 (omega (arith, h.0)), le-ltb c 58 (omega (arith, h.0)), le-ltb c 65 (omega (arith, h.0)), le-ltb c 91 (omega (arith, h.0)), le-ltb c 97 h.0, lt-ltb c 123 (omega (arith, h.1)))
      (omega (arith, h.0, h.1));
  ascii = omega (arith, h.1);
  no_plus = λ e. omega (arith, h.0, e);
}

hex_digit : (c : ℕ) → is_ascii_hexdigit c ≡ true → IsHexDigit c
hex_digit c e =
    elim (or_cases (is_in_range 48 57 c || is_in_range 65 70 c) (is_in_range 97 102 c) e) [
      | inl high ↦ elim (or_cases (is_in_range 48 57 c) (is_in_range 65 70 c) high) [
        | inl digit ↦ low_digit c (in_range 48 57 c digit)
        | inr upper ↦ upper_digit c (in_range 65 70 c upper)
      ]
      | inr lower ↦ lower_digit c (in_range 97 102 c lower)
    ]

pub hex_digits : (text : List ℕ) → all_hex_digits text ≡ true → AllDigits 16 text
hex_digits [] e = tt
hex_digits (c ∷ cs) e = let both = and_parts (is_ascii_hexdigit c) (all_hex_digits cs) e in ((hex_digit c both.0).value, hex_digits cs both.1)

ascii : (text : List ℕ) → all_hex_digits text ≡ true → IsAscii text
ascii [] e i = omega arith
ascii (c ∷ cs) e zero = (hex_digit c (and_parts (is_ascii_hexdigit c) (all_hex_digits cs) e).0).ascii
ascii (c ∷ cs) e (suc i) = ascii cs (and_parts (is_ascii_hexdigit c) (all_hex_digits cs) e).1 i

-- such digits are text
pub is_text : (text : List ℕ) → all_hex_digits text ≡ true → IsUtf8 text
is_text text e = IsUtf8-from_ascii text (ascii text e)

no_sign : (text : List ℕ) → all_hex_digits text ≡ true → get_or text 0 0 ≢ 43
no_sign [] e plus = omega (arith, plus)
no_sign (c ∷ cs) e plus = (hex_digit c (and_parts (is_ascii_hexdigit c) (all_hex_digits cs) e).0).no_plus plus

-- no digits are no number, and std refuses them
refused : {E : Type 0} (r : Result ℕ E) → ParsesUnsigned 32 16 [] r → result_ok r ≡ None
refused (Ok n) parsed = absurd (omega (arith, parsed.0.0.0))
refused (Err x) parsed = refl

-- the value of one to eight digits fits, and std reads it
taken : {E : Type 0} (text : List ℕ) (r : Result ℕ E) → ParsesUnsigned 32 16 text r → 0 < length text → length text ≤ 8 → all_hex_digits text ≡ true → r ≡ Ok (digits_value 16 text)
taken text r parsed some short digits =
    let plain = subst (λ (l : List ℕ). OkIff r (IsNumeral 16 l × (digits_value 16 l < 2 ^ 32)) (digits_value 16 l)) (without_leading_plus_none text (no_sign text digits)) parsed in
    let below : digits_value 16 text < 16 ^ length text = digits_value-lt 16 text (hex_digits text digits) in
    let most : 16 ^ length text ≤ 2 ^ 32 = pow-le-pow_right (let some : 0 < 16 = omega arith in some) short in
    Ok-from_Ok_iff r _ _ plain ((some, hex_digits text digits), omega (arith, below, most))

-- what std reads of up to eight such digits
pub hex_read : {E : Type 0} (text : List ℕ) (r : Result ℕ E) (o : Option ℕ) → o ≡ result_ok r → ParsesUnsigned 32 16 text r → length text ≤ 8 → all_hex_digits text ≡ true → o ≡ hex_number_of text
hex_read [] r o e parsed short digits = e ∙ refused r parsed
hex_read (c ∷ cs) r o e parsed short digits =
    let some : 0 < length (c ∷ cs) = omega arith in
    let is : is_hex_number (c ∷ cs) ≡ true = and_from _ _ (le-leb 1 (length (c ∷ cs)) some) (and_from _ _ (le-leb (length (c ∷ cs)) 8 short) digits) in
    e ∙ ap result_ok (taken (c ∷ cs) r parsed some short digits) ∙ sym (cond-true (is_hex_number (c ∷ cs)) (Some (digits_value 16 (c ∷ cs))) None is)
