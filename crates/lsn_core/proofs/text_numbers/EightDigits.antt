-- Numbers written with so many upper-case hexadecimal digits: their digits, and their value.
use Rattle.std.proofs.Common.{◌≡◌, ℕ, ◌+◌, ◌-◌, ◌*◌, ◌/◌, ◌%◌, ◌^◌, ◌<◌, ◌≤◌, ◌==◌, Bool, true, false, cond, Some, None, List, [], ◌∷◌, ◌++◌, length, take, drop, replicate, nat_lt, zero, suc, refl, sym, ap, ◌∙◌, arith, inl, inr}
use Rattle.std.specs.Char.{is_ascii_hexdigit, digit_value}
use Rattle.std.specs.Fmt.{digits, digits_onto, digit_glyph}
use Rattle.std.specs.Int.{IsInRange, is_in_range}
use Rattle.std.specs.Str.Parse.{digits_value, digits_value_after}
use Rattle.std.proofs.lemmas.Bool.{and_parts, and_from, or_cases, or_left, or_right, cases_lt, eqb-true, eqb-false, lt-ltb, le-ltb, le-leb, cond-true, cond-false}
use Rattle.std.proofs.lemmas.Int.Digits.{digits_value_push, digits_value-lt}
use Rattle.std.proofs.lemmas.List.{append-nil, append_assoc, length-append, length-take-le, take-append-drop, take_at, append_cancel_left, replicate-append-replicate}
use Rattle.std.proofs.lemmas.List.Folds.{list_all-append}
use Rattle.std.proofs.lemmas.Str.{digit_value_digit}
use Rattle.std.proofs.Math.Nat.{pow-succ'}
use Rattle.lsn_core.specs.text_numbers.Numbers.{all_hex_digits, all_upper_digits, is_upper_digit, is_hex_number, hex_number_of, eight_digits}
use Rattle.lsn_core.proofs.text_numbers.Hexadecimal.{in_range, hex_digits}

-- the last digits of a number, so many
abbrev last_digits : ℕ → ℕ → List ℕ
last_digits zero n = []
last_digits (suc k) n = last_digits k (n / 16) ++ (digit_glyph true (n % 16) ∷ [])

-- an upper-case digit is the one of its value
record IsUpper (c : ℕ) : Type 0 where
  value : digit_value c < 16
  glyph : digit_glyph true (digit_value c) ≡ c

low_glyph : (c d : ℕ) → d < 10 → 48 + d ≡ c → digit_glyph true d ≡ c
low_glyph c d small e = cond-true (nat_lt d 10) (48 + d) (55 + d) (lt-ltb d 10 small) ∙ e

high_glyph : (c d : ℕ) → 10 ≤ d → 55 + d ≡ c → digit_glyph true d ≡ c
high_glyph c d large e = cond-false (nat_lt d 10) (48 + d) (55 + d) (le-ltb d 10 large) ∙ e

low_upper : (c : ℕ) → IsInRange 48 57 c → IsUpper c
low_upper c h =
    let v = digit_value_digit c h in
    record { value = omega (arith, v, h.1); glyph = low_glyph c (digit_value c) (omega (arith, v, h.1)) (omega (arith, v, h.0)) }

letter_value : (c : ℕ) → IsInRange 65 70 c → digit_value c ≡ c - 55
letter_value c h = rw (le-ltb c 48 (omega (arith, h.0)), le-ltb c 58 (omega (arith, h.0)), le-ltb c 65 h.0, lt-ltb c 91 (omega (arith, h.1))) refl

high_upper : (c : ℕ) → IsInRange 65 70 c → IsUpper c
high_upper c h =
    let v = letter_value c h in
    record { value = omega (arith, v, h.1); glyph = high_glyph c (digit_value c) (omega (arith, v, h.0)) (omega (arith, v, h.0)) }

upper_digit : (c : ℕ) → is_upper_digit c ≡ true → IsUpper c
upper_digit c e =
    elim (or_cases (is_in_range 48 57 c) (is_in_range 65 70 c) e) [
      | inl digit ↦ low_upper c (in_range 48 57 c digit)
      | inr letter ↦ high_upper c (in_range 65 70 c letter)
    ]

-- what is written of a value below 16
record IsWritten (d : ℕ) : Type 0 where
  upper : is_upper_digit (digit_glyph true d) ≡ true
  value : digit_value (digit_glyph true d) ≡ d

written_low : (d : ℕ) → d < 10 → IsWritten d
written_low d small =
    let g = low_glyph (48 + d) d small refl in
    let range : IsInRange 48 57 (48 + d) = (omega arith, omega (arith, small)) in
    record {
      upper = ap is_upper_digit g ∙ or_left (is_in_range 48 57 (48 + d)) _ (and_from _ _ (le-leb 48 (48 + d) range.0) (le-leb (48 + d) 57 range.1));
      value = omega (arith, ap digit_value g, digit_value_digit (48 + d) range);
    }

written_high : (d : ℕ) → 10 ≤ d → d < 16 → IsWritten d
written_high d large small =
    let g = high_glyph (55 + d) d large refl in
    let range : IsInRange 65 70 (55 + d) = (omega (arith, large), omega (arith, small)) in
    record {
      upper = ap is_upper_digit g ∙ or_right (is_in_range 48 57 (55 + d)) _ (and_from _ _ (le-leb 65 (55 + d) range.0) (le-leb (55 + d) 70 range.1));
      value = omega (arith, ap digit_value g, letter_value (55 + d) range);
    }

written : (d : ℕ) → d < 16 → IsWritten d
written d small = elim (cases_lt d 10) [ inl low ↦ written_low d low | inr high ↦ written_high d high small ]

-- upper-case digits are the last digits of their value
digits_after : (text : List ℕ) (k n : ℕ) → all_upper_digits text ≡ true → last_digits (k + length text) (digits_value_after 16 n text) ≡ last_digits k n ++ text
digits_after [] k n upper = ap (λ (m : ℕ). last_digits m n) (let e : k + 0 ≡ k = omega arith in e) ∙ sym (append-nil (last_digits k n))
digits_after (c ∷ cs) k n upper =
    let both = and_parts (is_upper_digit c) (all_upper_digits cs) upper in
    let is = upper_digit c both.0 in
    let more = digits_after cs (suc k) (n * 16 + digit_value c) both.1 in
    let high : (n * 16 + digit_value c) / 16 ≡ n = omega (arith, is.value) in
    let low : (n * 16 + digit_value c) % 16 ≡ digit_value c = omega (arith, is.value) in
    ap (λ (m : ℕ). last_digits m (digits_value_after 16 (n * 16 + digit_value c) cs)) (let e : k + length (c ∷ cs) ≡ suc k + length cs = omega arith in e)
    ∙ more
    ∙ rw (high, low, is.glyph) (append_assoc (last_digits k n) (c ∷ []) cs)

-- and the value of last digits is the number
value_of_last : (k n : ℕ) → n < 16 ^ k → digits_value 16 (last_digits k n) ≡ n
value_of_last zero n small = omega (arith, small)
value_of_last (suc k) n small =
    let less : n / 16 < 16 ^ k = omega (arith, small, pow-succ' 16 k) in
    digits_value_push 16 (last_digits k (n / 16)) (digit_glyph true (n % 16))
    ∙ rw (value_of_last k (n / 16) less, (written (n % 16) (omega arith)).value) (omega arith)

last_upper : (k n : ℕ) → all_upper_digits (last_digits k n) ≡ true
last_upper zero n = refl
last_upper (suc k) n =
    list_all-append is_upper_digit (last_digits k (n / 16)) (digit_glyph true (n % 16) ∷ [])
    ∙ and_from (all_upper_digits (last_digits k (n / 16))) _ (last_upper k (n / 16)) (and_from (is_upper_digit (digit_glyph true (n % 16))) true (written (n % 16) (omega arith)).upper refl)

length-last : (k n : ℕ) → length (last_digits k n) ≡ k
length-last zero n = refl
length-last (suc k) n = length-append (last_digits k (n / 16)) (digit_glyph true (n % 16) ∷ []) ∙ (let e : length (last_digits k (n / 16)) + 1 ≡ suc k = omega (arith, length-last k (n / 16)) in e)

last_of_zero : (k : ℕ) → last_digits k 0 ≡ replicate k 48
last_of_zero zero = refl
last_of_zero (suc k) = ap (λ (l : List ℕ). l ++ (48 ∷ [])) (last_of_zero k) ∙ replicate-append-replicate k 1 48 ∙ ap (λ (m : ℕ). replicate m 48) (let e : k + 1 ≡ suc k = omega arith in e)

-- a number's digits behind zeros are its last digits
pad_last : (m n r : ℕ) (acc : List ℕ) → n / 16 ≡ 0 → r ≡ m → replicate r 48 ++ (digit_glyph true (n % 16) ∷ acc) ≡ last_digits (suc m) n ++ acc
pad_last m n r acc last is =
    rw (is, last, last_of_zero m) (sym (append_assoc (replicate m 48) (digit_glyph true (n % 16) ∷ []) acc))

abbrev first_glyph : ℕ → List ℕ → List ℕ
first_glyph n acc = digit_glyph true (n % 16) ∷ acc

-- what a step of writing leaves, with as many zeros before it
abbrev IsPadded : ℕ → ℕ → List ℕ → List ℕ → Type 0
IsPadded m n acc text = replicate (suc m + length acc - length text) 48 ++ text ≡ last_digits (suc m) n ++ acc

padded_last : (m n : ℕ) (acc : List ℕ) → n / 16 ≡ 0 → IsPadded m n acc (first_glyph n acc)
padded_last m n acc last = pad_last m n (suc m + length acc - suc (length acc)) acc last (omega arith)

padded_more : (m n : ℕ) (acc text : List ℕ) → IsPadded m (n / 16) (first_glyph n acc) text → IsPadded (suc m) n acc text
padded_more m n acc text more =
    ap (λ (r : ℕ). replicate r 48 ++ text) (let e : suc (suc m) + length acc - length text ≡ suc m + suc (length acc) - length text = omega arith in e)
    ∙ more ∙ sym (append_assoc (last_digits (suc m) (n / 16)) (digit_glyph true (n % 16) ∷ []) acc)

padded_step : (m n : ℕ) (acc behind : List ℕ) → ((n / 16 ≡ 0 → ⊥) → IsPadded m n acc behind) → IsPadded m n acc (cond (n / 16 == 0) (first_glyph n acc) behind)
padded_step m n acc behind more =
    elim (n / 16 == 0) as (λ b. (n / 16 == 0) ≡ b → IsPadded m n acc (cond b (first_glyph n acc) behind)) [
      | true ↦ λ e. padded_last m n acc (eqb-true (n / 16) 0 e)
      | false ↦ λ e. more (eqb-false (n / 16) 0 e)
    ] refl

padded : (m k n : ℕ) (acc : List ℕ) → m ≤ k → n < 16 ^ suc m → IsPadded m n acc (digits_onto (suc k) 16 true n acc)
padded zero k n acc le small = padded_step zero n acc (digits_onto k 16 true (n / 16) (first_glyph n acc)) (λ more. absurd (more (omega (arith, small, pow-succ' 16 0))))
padded (suc m) zero n acc le small = absurd (omega (arith, le))
padded (suc m) (suc k) n acc le small =
    padded_step (suc m) n acc (digits_onto (suc k) 16 true (n / 16) (first_glyph n acc))
    (λ _. padded_more m n acc (digits_onto (suc k) 16 true (n / 16) (first_glyph n acc)) (padded m k (n / 16) (first_glyph n acc) (omega (arith, le)) (omega (arith, small, pow-succ' 16 (suc m)))))

some_step : (n : ℕ) (acc behind : List ℕ) → length acc < length behind → length acc < length (cond (n / 16 == 0) (first_glyph n acc) behind)
some_step n acc behind more = elim (n / 16 == 0) as (λ b. length acc < length (cond b (first_glyph n acc) behind)) [ true ↦ omega arith | false ↦ more ]

some_digits : (k n : ℕ) (acc : List ℕ) → length acc < length (digits_onto (suc k) 16 true n acc)
some_digits zero n acc = some_step n acc (first_glyph n acc) (omega arith)
some_digits (suc k) n acc = some_step n acc (digits_onto (suc k) 16 true (n / 16) (first_glyph n acc)) (omega (arith, some_digits k (n / 16) (first_glyph n acc)))

-- eight digits are the last ones
pub eight_are_last : (n : ℕ) → n < 2 ^ 32 → eight_digits n ≡ last_digits 8 n
unfolding digits
eight_are_last n small = padded 7 63 n [] (omega arith) (omega (arith, small)) ∙ append-nil (last_digits 8 n)

pub length-eight_digits : (n : ℕ) → n < 2 ^ 32 → length (eight_digits n) ≡ 8
length-eight_digits n small = ap length (eight_are_last n small) ∙ length-last 8 n

pub eight_upper : (n : ℕ) → n < 2 ^ 32 → all_upper_digits (eight_digits n) ≡ true
eight_upper n small = ap all_upper_digits (eight_are_last n small) ∙ last_upper 8 n

pub value_of_eight : (n : ℕ) → n < 2 ^ 32 → digits_value 16 (eight_digits n) ≡ n
value_of_eight n small = ap (digits_value 16) (eight_are_last n small) ∙ value_of_last 8 n (omega (arith, small))

-- eight upper-case digits are those of their value
pub eight_again : (text : List ℕ) → length text ≡ 8 → all_upper_digits text ≡ true → digits_value 16 text < 2 ^ 32 → text ≡ eight_digits (digits_value 16 text)
eight_again text len upper small =
    sym (ap (λ (m : ℕ). last_digits m (digits_value 16 text)) (let e : 8 ≡ 0 + length text = omega (arith, len) in e) ∙ digits_after text 0 0 upper) ∙ sym (eight_are_last (digits_value 16 text) small)

-- an upper-case digit is a digit
pub upper_is_hex : (text : List ℕ) → all_upper_digits text ≡ true → all_hex_digits text ≡ true
upper_is_hex [] e = refl
upper_is_hex (c ∷ cs) e =
    let both = and_parts (is_upper_digit c) (all_upper_digits cs) e in
    and_from (is_ascii_hexdigit c) (all_hex_digits cs) (or_left (is_upper_digit c) (is_in_range 97 102 c) both.0) (upper_is_hex cs both.1)

-- zeros in front don't count
zeros_value : (r : ℕ) (text : List ℕ) → digits_value 16 (replicate r 48 ++ text) ≡ digits_value 16 text
zeros_value zero text = refl
zeros_value (suc r) text = zeros_value r text

-- what is written of a number below 2^32
pub record IsHexText (n : ℕ) (text : List ℕ) : Type 0 where
  pub some : 1 ≤ length text
  pub most : length text ≤ 8
  pub digits : all_hex_digits text ≡ true
  pub value : digits_value 16 text ≡ n

pub hex_text : (n : ℕ) → n < 2 ^ 32 → IsHexText n (digits 16 true n)
unfolding digits
hex_text n small =
    let text = digits_onto 64 16 true n [] in
    let zeros = 8 - length text in
    let len : length (replicate zeros 48) + length text ≡ 8 = sym (length-append (replicate zeros 48) text) ∙ length-eight_digits n small in
    let both = and_parts (all_upper_digits (replicate zeros 48)) (all_upper_digits text) (sym (list_all-append is_upper_digit (replicate zeros 48) text) ∙ eight_upper n small) in
    record {
      some = omega (arith, some_digits 63 n []);
      most = omega (arith, len);
      digits = upper_is_hex text both.1;
      value = sym (zeros_value zeros text) ∙ value_of_eight n small;
    }

-- the digits of eight are read
pub eight_read : (n : ℕ) → n < 2 ^ 32 → hex_number_of (eight_digits n) ≡ Some n
eight_read n small =
    let len = length-eight_digits n small in
    let is : is_hex_number (eight_digits n) ≡ true =
    and_from _ _ (le-leb 1 (length (eight_digits n)) (omega (arith, len))) (and_from _ _ (le-leb (length (eight_digits n)) 8 (omega (arith, len))) (upper_is_hex (eight_digits n) (eight_upper n small))) in
    cond-true (is_hex_number (eight_digits n)) (Some (digits_value 16 (eight_digits n))) None is ∙ ap (λ (m : ℕ). Some m) (value_of_eight n small)

cond_some : (b : Bool) (m n : ℕ) → cond b (Some m) None ≡ Some n → m ≡ n
cond_some true m n e = cc
cond_some false m n e = absurd cc

-- what is read of eight digits at the front
pub eight_found : (text front back : List ℕ) (n : ℕ) → front ≡ take 8 text → back ≡ drop 8 text → 8 ≤ length text → all_upper_digits front ≡ true → hex_number_of front ≡ Some n → text ≡ eight_digits n ++ back
eight_found text front back n f b long upper read =
    let len : length front ≡ 8 = ap length f ∙ length-take-le 8 text long in
    let value : digits_value 16 front ≡ n = cond_some (is_hex_number front) (digits_value 16 front) n read in
    let below : digits_value 16 front < 16 ^ length front = digits_value-lt 16 front (hex_digits front (upper_is_hex front upper)) in
    let small : digits_value 16 front < 2 ^ 32 = omega (arith, below, ap (λ (k : ℕ). 16 ^ k) len) in
    sym (take-append-drop 8 text) ∙ ap (λ (l : List ℕ). l ++ drop 8 text) (sym f ∙ eight_again front len upper small ∙ ap eight_digits value) ∙ ap (λ (l : List ℕ). eight_digits n ++ l) (sym b)

-- a text behind eight digits begins with these
eight_front : (text front tail : List ℕ) (n : ℕ) → front ≡ take 8 text → n < 2 ^ 32 → text ≡ eight_digits n ++ tail → front ≡ eight_digits n
eight_front text front tail n f small is = f ∙ ap (take 8) is ∙ take_at (eight_digits n) tail 8 (length-eight_digits n small)

pub not_upper : (text front : List ℕ) → front ≡ take 8 text → all_upper_digits front ≡ false → (n : ℕ) (tail : List ℕ) → n < 2 ^ 32 → text ≡ eight_digits n ++ tail → ⊥
not_upper text front f other n tail small is =
    let upper : all_upper_digits front ≡ true = ap all_upper_digits (eight_front text front tail n f small is) ∙ eight_upper n small in
    let never : false ≡ true = sym other ∙ upper in
    cc

pub not_read : (text front : List ℕ) → front ≡ take 8 text → hex_number_of front ≡ None → (n : ℕ) (tail : List ℕ) → n < 2 ^ 32 → text ≡ eight_digits n ++ tail → ⊥
not_read text front f none n tail small is =
    let some : hex_number_of front ≡ Some n = ap hex_number_of (eight_front text front tail n f small is) ∙ eight_read n small in
    let never : None ≡ Some n = sym none ∙ some in
    cc

-- a text has one number in eight digits at its front
pub eight_once : (text : List ℕ) (m n : ℕ) (t u : List ℕ) → m < 2 ^ 32 → n < 2 ^ 32 → text ≡ eight_digits m ++ t → text ≡ eight_digits n ++ u → (m ≡ n) × (t ≡ u)
eight_once text m n t u sm sn a b =
    let first = eight_front text (take 8 text) t m refl sm a in
    let other = eight_front text (take 8 text) u n refl sn b in
    let same : eight_digits m ≡ eight_digits n = sym first ∙ other in
    let number : m ≡ n = sym (value_of_eight m sm) ∙ ap (digits_value 16) same ∙ value_of_eight n sn in
    (number, append_cancel_left (eight_digits n) t u (ap (λ (l : List ℕ). l ++ t) (sym same) ∙ sym a ∙ b))
