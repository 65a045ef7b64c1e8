-- The values of lines are read in one way.
use Rattle.std.proofs.Common.{◌≡◌, ℕ, ◌^◌, ◌<◌, ◌==◌, true, false, List, [], ◌∷◌, ◌++◌, codes, Some, None, refl, sym, ap, subst, ◌∙◌, arith}
use Rattle.std.specs.Char.{is_ascii_hexdigit}
use Rattle.std.specs.Fmt.{decimal}
use Rattle.std.proofs.lemmas.Bool.{and_parts, ne_eqb}
use Rattle.std.proofs.lemmas.Fmt.{decimal_injective}
use Rattle.std.proofs.lemmas.List.{append_cancel_left, append_cancel_right}
use Rattle.lsn_core.specs.byte_words.Cuts.{cut_at}
use Rattle.lsn_core.proofs.byte_words.Cutting.{Lacks, cut_again, cut_whole, front_of, back_of}
use Rattle.lsn_core.specs.text_numbers.Numbers.{is_hex_number, all_hex_digits}
use Rattle.lsn_core.specs.Names.{IsLsnText}
use Rattle.lsn_core.proofs.LsnTexts.{one_lsn}
use Rattle.backup_label.specs.Label.{IsStartValue, IsTimelineValue, is_file_digits}
use Rattle.backup_label.specs.Inside.{file_note}
use Rattle.backup_label.proofs.LineTexts.{never_some, lacks_append}

-- ---- bytes that are no digits

no_digit : (byte c : ℕ) → is_ascii_hexdigit byte ≡ false → is_ascii_hexdigit c ≡ true → c ≡ byte → ⊥
no_digit byte c other digit e = let never : true ≡ false = sym digit ∙ ap is_ascii_hexdigit e ∙ other in cc

pub digits_lack : (byte : ℕ) → is_ascii_hexdigit byte ≡ false → (text : List ℕ) → all_hex_digits text ≡ true → Lacks byte text
digits_lack byte other [] e = tt
digits_lack byte other (c ∷ cs) e =
    let both = and_parts (is_ascii_hexdigit c) (all_hex_digits cs) e in
    (ne_eqb c byte (no_digit byte c other both.0), digits_lack byte other cs both.1)

digits_of : (text : List ℕ) → is_hex_number text ≡ true → all_hex_digits text ≡ true
digits_of text e = (and_parts _ (all_hex_digits text) (and_parts _ _ e).1).1

pub lsn_lacks : (byte : ℕ) → is_ascii_hexdigit byte ≡ false → (47 == byte) ≡ false → (text : List ℕ) (at : ℕ) → IsLsnText text at → Lacks byte text
lsn_lacks byte other slash text at is =
    subst (Lacks byte) (sym is.parts) (lacks_append byte is.high (47 ∷ is.low) (digits_lack byte other is.high (digits_of is.high is.high_digits)) (slash, digits_lack byte other is.low (digits_of is.low is.low_digits)))

-- ---- the place and the file of the first line

cut_start : (value : List ℕ) (at : ℕ) (is : IsStartValue value at) → cut_at 32 value ≡ Some (is.place, file_note is.file)
cut_start value at is = ap (cut_at 32) is.spelled ∙ cut_again 32 is.place (file_note is.file) (lsn_lacks 32 refl refl is.place at is.says)

one_file : (file other : List ℕ) → file_note file ≡ file_note other → file ≡ other
one_file file other e = append_cancel_right file other (codes ")") (append_cancel_left (codes "(file ") (file ++ codes ")") (other ++ codes ")") e)

pub not_spaced : (value : List ℕ) → cut_at 32 value ≡ None → (at : ℕ) → IsStartValue value at → ⊥
not_spaced value none at is = never_some (is.place, file_note is.file) (sym none ∙ cut_start value at is)

pub not_noted : (value place note : List ℕ) → cut_at 32 value ≡ Some (place, note) → ((file : List ℕ) → note ≡ file_note file → ⊥) → (at : ℕ) → IsStartValue value at → ⊥
not_noted value place note cut never at is = never is.file (ap back_of (sym cut ∙ cut_start value at is))

pub not_file : (value place note file : List ℕ) → cut_at 32 value ≡ Some (place, note) → note ≡ file_note file → is_file_digits file ≡ false → (at : ℕ) → IsStartValue value at → ⊥
not_file value place note file cut noted other at is =
    let same : file ≡ is.file = one_file file is.file (sym noted ∙ ap back_of (sym cut ∙ cut_start value at is)) in
    let never : false ≡ true = sym other ∙ ap is_file_digits same ∙ is.digits in
    cc

pub not_place : (value place note : List ℕ) → cut_at 32 value ≡ Some (place, note) → ((at : ℕ) → IsLsnText place at → ⊥) → (at : ℕ) → IsStartValue value at → ⊥
not_place value place note cut never at is =
    never at (subst (λ (l : List ℕ). IsLsnText l at) (ap front_of (sym (cut_start value at is) ∙ cut)) is.says)

pub is_start : (value place note file : List ℕ) (at : ℕ) → cut_at 32 value ≡ Some (place, note) → note ≡ file_note file → is_file_digits file ≡ true → IsLsnText place at → IsStartValue value at
is_start value place note file at cut noted digits says = record {
  place = place;
  file = file;
  spelled = cut_whole 32 value place note cut ∙ ap (λ (l : List ℕ). place ++ (32 ∷ l)) noted;
  says = says;
  digits = digits;
}

-- a value tells one place
pub one_start : (value : List ℕ) (a b : ℕ) → IsStartValue value a → IsStartValue value b → a ≡ b
one_start value a b x y =
    one_lsn y.place a b (subst (λ (l : List ℕ). IsLsnText l a) (ap front_of (sym (cut_start value a x) ∙ cut_start value b y)) x.says) y.says

-- ---- timelines

pub one_timeline : (value : List ℕ) (m n : ℕ) → IsTimelineValue value m → IsTimelineValue value n → m ≡ n
one_timeline value m n a b = decimal_injective m n (omega (arith, a.0)) (omega (arith, b.0)) (sym a.1 ∙ b.1)

pub too_large : (value : List ℕ) (m : ℕ) → value ≡ decimal m → m < 2 ^ 64 → 4294967295 < m → (n : ℕ) → IsTimelineValue value n → ⊥
too_large value m is small large n other =
    let same = decimal_injective m n small (omega (arith, other.0)) (sym is ∙ other.1) in
    omega (arith, same, large, other.0)
