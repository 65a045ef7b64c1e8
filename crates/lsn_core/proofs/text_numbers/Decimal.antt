-- What is written in decimal: its digits, its value and its length.
use Rattle.std.proofs.Common.{◌≡◌, ◌≢◌, ℕ, ◌<◌, ◌≤◌, ◌^◌, true, false, Option, Some, None, IfNone, IfSome, Result, Ok, Err, List, [], ◌∷◌, length, get_or, zero, suc, refl, ap, sym, subst, arith, rules}
use Rattle.std.specs.Fmt.{decimal}
use Rattle.std.specs.Str.{IsUtf8}
use Rattle.std.specs.Str.Parse.{digits_value, ParsesUnsigned}
use Rattle.std.specs.Result.{result_ok}
use Rattle.std.proofs.lemmas.Str.{IsUtf8-from_ascii}
use Rattle.std.proofs.lemmas.Str.Parse.{IsNumeralModel, IsDigitsTest, numerals_by_value, parse_digits}
use Rattle.std.proofs.lemmas.Fmt.{digits_decimal, IsAscii-from_digits, digits_value-decimal, decimal-digits_value, decimal_nonempty, first_decimal, decimal_digit}
use Rattle.lsn_core.specs.text_numbers.Numbers.{all_digits}

-- texts of decimal digits, in std's words
pub tells : IsDigitsTest (λ ds. all_digits ds ≡ true)
tells = search rules

pub own : IsNumeralModel (λ ds. all_digits ds ≡ true) (digits_value 10)
own = numerals_by_value _ tells

-- a number's text is digits alone
pub decimal_is_digits : (n : ℕ) → n < 2 ^ 64 → all_digits (decimal n) ≡ true
decimal_is_digits n small = digits_decimal own n small

-- it has no leading zero
pub no_leading_zero : (n : ℕ) → n < 2 ^ 64 → 1 < length (decimal n) → get_or (decimal n) 0 0 ≢ 48
no_leading_zero zero small long first = omega (arith, ap length (decimal_digit 0 (omega arith)), long)
no_leading_zero (suc n) small long first = omega (arith, first_decimal (suc n) (omega arith) small)

one_digit : (text : List ℕ) → 0 < length text → (1 < length text → get_or text 0 0 ≢ 48) → get_or text 0 0 ≡ 48 → length text ≡ 1
one_digit [] some first is_zero = absurd (omega arith)
one_digit (b ∷ []) some first is_zero = refl
one_digit (b ∷ (d ∷ rest)) some first is_zero = absurd (first (omega arith) is_zero)

-- digits without a leading zero are the text of their value
pub is_text_of_value : (text : List ℕ) → all_digits text ≡ true → 0 < length text → (1 < length text → get_or text 0 0 ≢ 48) → digits_value 10 text < 2 ^ 64 → text ≡ decimal (digits_value 10 text)
is_text_of_value text digits some first small = sym (decimal-digits_value own text digits some (λ is_zero. one_digit text some first is_zero) small)

-- other bytes are no number's text
pub not_digits : (text : List ℕ) → all_digits text ≡ false → (n : ℕ) → n < 2 ^ 64 → text ≡ decimal n → ⊥
not_digits text other n small e = cc (decimal_is_digits n small)

-- nor is a zero with a digit behind it
pub zero_first : (text : List ℕ) → (1 < length text) × (get_or text 0 0 ≡ 48) → (n : ℕ) → n < 2 ^ 64 → text ≡ decimal n → ⊥
zero_first text front n small e = no_leading_zero n small (subst (λ (t : List ℕ). 1 < length t) e front.0) (subst (λ (t : List ℕ). get_or t 0 0 ≡ 48) e front.1)

-- nor are digits whose value is no smaller than 2 ^ 64
pub too_large : (text : List ℕ) → (0 < length text → 2 ^ 64 ≤ digits_value 10 text) → (n : ℕ) → n < 2 ^ 64 → text ≡ decimal n → ⊥
too_large text large n small e =
    let least : 2 ^ 64 ≤ digits_value 10 (decimal n) = subst (λ (t : List ℕ). 2 ^ 64 ≤ digits_value 10 t) e (large (subst (λ (t : List ℕ). 0 < length t) (sym e) (decimal_nonempty n small))) in
    omega (arith, digits_value-decimal own n small, least)

-- the answer of a reader on such digits
pub found_text : (text : List ℕ) (o : Option ℕ) → all_digits text ≡ true → ((1 < length text) × (get_or text 0 0 ≡ 48) → ⊥) → IfSome o (λ n. 0 < length text) → IfSome o (λ n. n ≡ digits_value 10 text) → IfSome o (λ n. n < 2 ^ 64) → IfSome o (λ n. text ≡ decimal n)
found_text text None digits first some value small = tt
found_text text (Some n) digits first some value small =
    subst (λ (v : ℕ). text ≡ decimal v) (sym value) (is_text_of_value text digits some (λ long is_zero. first (long, is_zero)) (rw value at small))

pub none_text : (text : List ℕ) (o : Option ℕ) → IfNone o (0 < length text → 2 ^ 64 ≤ digits_value 10 text) → IfNone o ((n : ℕ) → n < 2 ^ 64 → text ≡ decimal n → ⊥)
none_text text None large = too_large text large
none_text text (Some n) large = tt

-- digits are text
pub is_text : (text : List ℕ) → all_digits text ≡ true → IsUtf8 text
is_text text digits = IsUtf8-from_ascii text (IsAscii-from_digits text (own.to text digits))

least : (limit n : ℕ) → (n < limit → ⊥) → limit ≤ n
least limit n below = omega (arith, below)

-- digits that std can't read have a value beyond the type's
pub unread : {E : Type 0} (text : List ℕ) (r : Result ℕ E) (o : Option ℕ) → o ≡ result_ok r → ParsesUnsigned 64 10 text r → all_digits text ≡ true → IfNone o (0 < length text → 2 ^ 64 ≤ digits_value 10 text)
unread text (Ok n) o e parsed digits = rw e tt
unread text (Err x) o e parsed digits = rw e (λ some. least _ _ (λ small. parse_digits own 64 text (Err x) parsed digits (some, small)))
