-- The digits at the front of a text, and the number that they write.
use Rattle.std.proofs.Common.{◌≡◌, ℕ, ◌+◌, ◌^◌, ◌<◌, ◌≤◌, Bool, true, false, cond, List, [], ◌∷◌, ◌++◌, length, take, drop, refl, sym, ap, ◌∙◌, arith, add-one}
use Rattle.std.specs.Fmt.{decimal}
use Rattle.std.specs.Char.{is_ascii_digit}
use Rattle.std.specs.List.{prefix_len}
use Rattle.std.proofs.lemmas.Bool.{and_parts}
use Rattle.std.proofs.lemmas.List.{take-append-drop, take_at, append_cancel_left}
use Rattle.std.proofs.lemmas.List.Sums.{prefix_len-le-length}
use Rattle.std.proofs.lemmas.Fmt.{decimal_injective}
use Rattle.lsn_core.specs.text_numbers.Numbers.{all_digits, IsFront}
use Rattle.lsn_core.proofs.text_numbers.Decimal.{decimal_is_digits}

-- how many digits stand at the front
abbrev pub digit_count : List ℕ → ℕ
digit_count text = prefix_len is_ascii_digit text

pub count_fits : (text : List ℕ) → digit_count text ≤ length text
count_fits text = prefix_len-le-length is_ascii_digit text

-- digits in front of something else are counted
pub counted : (digits tail : List ℕ) → all_digits digits ≡ true → digit_count tail ≡ 0 → digit_count (digits ++ tail) ≡ length digits
counted [] tail are apart = apart
counted (c ∷ cs) tail are apart =
    let both = and_parts (is_ascii_digit c) (all_digits cs) are in
    rw (both.0, counted cs tail both.1 apart) (omega arith)

-- no digit stands behind them
rest_at : (b : Bool) (c : ℕ) (cs : List ℕ) → is_ascii_digit c ≡ b → digit_count (drop (digit_count cs) cs) ≡ 0 → digit_count (drop (cond b (1 + digit_count cs) 0) (c ∷ cs)) ≡ 0
rest_at true c cs e more = rw (let f : 1 + digit_count cs ≡ digit_count cs + 1 = omega arith in f) (rw add-one more)
rest_at false c cs e more = rw e refl

pub apart_behind : (text : List ℕ) → digit_count (drop (digit_count text) text) ≡ 0
apart_behind [] = refl
apart_behind (c ∷ cs) = rest_at (is_ascii_digit c) c cs refl (apart_behind cs)

-- the number that was read at the front
pub front_found : (text front back : List ℕ) (n : ℕ) → front ≡ take (digit_count text) text → back ≡ drop (digit_count text) text → front ≡ decimal n → IsFront text n back
front_found text front back n f b is = record {
  parts = sym (take-append-drop (digit_count text) text) ∙ ap (λ (l : List ℕ). l ++ drop (digit_count text) text) (sym f ∙ is) ∙ ap (λ (l : List ℕ). decimal n ++ l) (sym b);
  apart = ap digit_count b ∙ apart_behind text;
}

-- the digits at the front are those of the number
pub front_digits : (text tail : List ℕ) (n : ℕ) → n < 2 ^ 64 → IsFront text n tail → take (digit_count text) text ≡ decimal n
front_digits text tail n small is =
    let count : digit_count text ≡ length (decimal n) = ap digit_count is.parts ∙ counted (decimal n) tail (decimal_is_digits n small) is.apart in
    ap (λ (k : ℕ). take k text) count ∙ ap (take (length (decimal n))) is.parts ∙ take_at (decimal n) tail (length (decimal n)) refl

pub front_none : (text front : List ℕ) → front ≡ take (digit_count text) text → ((n : ℕ) → n < 2 ^ 64 → front ≡ decimal n → ⊥) → (n : ℕ) (tail : List ℕ) → n < 2 ^ 64 → IsFront text n tail → ⊥
front_none text front f none n tail small is = none n small (f ∙ front_digits text tail n small is)

-- a text has one number at its front
pub front_once : (text : List ℕ) (m n : ℕ) (t u : List ℕ) → m < 2 ^ 64 → n < 2 ^ 64 → IsFront text m t → IsFront text n u → (m ≡ n) × (t ≡ u)
front_once text m n t u sm sn a b =
    let same : decimal m ≡ decimal n = sym (front_digits text t m sm a) ∙ front_digits text u n sn b in
    let number = decimal_injective m n sm sn same in
    (number, append_cancel_left (decimal n) t u (ap (λ (l : List ℕ). l ++ t) (sym same) ∙ sym a.parts ∙ b.parts))

-- the front of a number's text and what begins with no digit
pub is_front : (text : List ℕ) (n : ℕ) (tail : List ℕ) → text ≡ decimal n ++ tail → digit_count tail ≡ 0 → IsFront text n tail
is_front text n tail e apart = record { parts = e; apart = apart }
