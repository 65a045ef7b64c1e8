-- The text of an LSN is read in one way.
use Rattle.std.proofs.Common.{◌≡◌, ℕ, ◌+◌, ◌*◌, ◌/◌, ◌%◌, ◌^◌, ◌<◌, Bool, true, false, cond, Some, None, List, [], ◌∷◌, length, refl, sym, ap, ◌∙◌, arith, nat_le}
use Rattle.std.specs.Char.{is_ascii_hexdigit}
use Rattle.std.specs.Fmt.{digits}
use Rattle.std.specs.Str.Parse.{digits_value}
use Rattle.std.proofs.lemmas.Bool.{and_parts, and_from, le-leb, cond-true, ne_eqb}
use Rattle.lsn_core.specs.byte_words.Cuts.{cut_at}
use Rattle.lsn_core.proofs.byte_words.Cutting.{Lacks, cut_again, cut_whole, front_of, back_of}
use Rattle.lsn_core.specs.text_numbers.Numbers.{is_hex_number, hex_number_of, all_hex_digits}
use Rattle.lsn_core.proofs.text_numbers.EightDigits.{hex_text}
use Rattle.lsn_core.specs.Names.{lsn_bytes, IsLsnText}

never_some : {A : Type 0} (x : A) → None ≡ Some x → ⊥
never_some x e = cc

no_slash : (c : ℕ) → is_ascii_hexdigit c ≡ true → c ≡ 47 → ⊥
no_slash c digit slash = let never : false ≡ true = ap is_ascii_hexdigit (sym slash) ∙ digit in cc

lacks_slash : (text : List ℕ) → all_hex_digits text ≡ true → Lacks 47 text
lacks_slash [] e = tt
lacks_slash (c ∷ cs) e =
    let both = and_parts (is_ascii_hexdigit c) (all_hex_digits cs) e in
    (ne_eqb c 47 (no_slash c both.0), lacks_slash cs both.1)

digits_of : (text : List ℕ) → is_hex_number text ≡ true → all_hex_digits text ≡ true
digits_of text e = (and_parts (nat_le (length text) 8) (all_hex_digits text) (and_parts (nat_le 1 (length text)) _ e).1).1

read_of : (text : List ℕ) → is_hex_number text ≡ true → hex_number_of text ≡ Some (digits_value 16 text)
read_of text e = cond-true (is_hex_number text) (Some (digits_value 16 text)) None e

number_of : (text : List ℕ) (n : ℕ) (b : Bool) → is_hex_number text ≡ b → cond b (Some (digits_value 16 text)) None ≡ Some n → (is_hex_number text ≡ true) × (digits_value 16 text ≡ n)
number_of text n true is e = (is, cc)
number_of text n false is e = absurd cc

-- the text is cut where the two numbers meet
cut_there : (text : List ℕ) (at : ℕ) (is : IsLsnText text at) → cut_at 47 text ≡ Some (is.high, is.low)
cut_there text at is = ap (cut_at 47) is.parts ∙ cut_again 47 is.high is.low (lacks_slash is.high (digits_of is.high is.high_digits))

pub not_cut : (text : List ℕ) → cut_at 47 text ≡ None → (at : ℕ) → IsLsnText text at → ⊥
not_cut text none at is = never_some (is.high, is.low) (sym none ∙ cut_there text at is)

pub not_high : (text high low : List ℕ) → cut_at 47 text ≡ Some (high, low) → hex_number_of high ≡ None → (at : ℕ) → IsLsnText text at → ⊥
not_high text high low cut none at is =
    let same : high ≡ is.high = ap front_of (sym cut ∙ cut_there text at is) in
    never_some (digits_value 16 is.high) (sym none ∙ ap hex_number_of same ∙ read_of is.high is.high_digits)

pub not_low : (text high low : List ℕ) → cut_at 47 text ≡ Some (high, low) → hex_number_of low ≡ None → (at : ℕ) → IsLsnText text at → ⊥
not_low text high low cut none at is =
    let same : low ≡ is.low = ap back_of (sym cut ∙ cut_there text at is) in
    never_some (digits_value 16 is.low) (sym none ∙ ap hex_number_of same ∙ read_of is.low is.low_digits)

-- what is read of the two halves
pub is_lsn : (text high low : List ℕ) (m n : ℕ) → cut_at 47 text ≡ Some (high, low) → hex_number_of high ≡ Some m → hex_number_of low ≡ Some n → IsLsnText text (m * 4294967296 + n)
is_lsn text high low m n cut first second =
    let h = number_of high m (is_hex_number high) refl first in
    let l = number_of low n (is_hex_number low) refl second in
    record { high = high; low = low; parts = cut_whole 47 text high low cut; high_digits = h.0; low_digits = l.0; value = omega (arith, h.1, l.1) }

-- a text has one LSN
pub one_lsn : (text : List ℕ) (a b : ℕ) → IsLsnText text a → IsLsnText text b → a ≡ b
one_lsn text a b x y =
    let same = sym (cut_there text a x) ∙ cut_there text b y in
    let high = ap (digits_value 16) (ap front_of same) in
    let low = ap (digits_value 16) (ap back_of same) in
    omega (arith, x.value, y.value, high, low)

-- and a printed LSN is a text of it
hex_is : (n : ℕ) → n < 2 ^ 32 → is_hex_number (digits 16 true n) ≡ true
hex_is n small =
    let is = hex_text n small in
    and_from _ _ (le-leb 1 (length (digits 16 true n)) is.some) (and_from _ _ (le-leb (length (digits 16 true n)) 8 is.most) is.digits)

pub printed : (at : ℕ) → at < 2 ^ 64 → IsLsnText (lsn_bytes at) at
printed at small =
    let high_small : at / 2 ^ 32 < 2 ^ 32 = omega (arith, small) in
    let low_small : at % 2 ^ 32 < 2 ^ 32 = omega arith in
    record {
      high = digits 16 true (at / 2 ^ 32);
      low = digits 16 true (at % 2 ^ 32);
      parts = refl;
      high_digits = hex_is (at / 2 ^ 32) high_small;
      low_digits = hex_is (at % 2 ^ 32) low_small;
      value = omega (arith, (hex_text (at / 2 ^ 32) high_small).value, (hex_text (at % 2 ^ 32) low_small).value);
    }
