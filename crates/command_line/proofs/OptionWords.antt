-- Numbers in the values of options.
use Rattle.std.proofs.Common.{◌≡◌, ℕ, ◌<◌, ◌^◌, Bool, true, false, ◌&&◌, if◌then◌else◌, List, Option, Some, None, IfSome, IfNone, bytes_eq, nat_lt, refl, sym, subst}
use Rattle.std.specs.Fmt.{decimal}
use Rattle.std.specs.Str.Parse.{digits_value}
use Rattle.std.proofs.lemmas.Bool.Decides.{Decides-ltb}
use Rattle.std.proofs.lemmas.Slice.Eq.{bytes_eq-Decides}
use Rattle.std.proofs.lemmas.Fmt.{digits_value-decimal}
use Rattle.lsn_core.proofs.text_numbers.Decimal.{own}
use Rattle.command_line.specs.Options.{decimal_number}

picks_none : (a b : Bool) (n : ℕ) → (a ≡ true → b ≡ true → ⊥) → None ≡ (if a && b then Some n else None)
picks_none true true n h = absurd (h refl refl)
picks_none true false n h = refl
picks_none false b n h = refl

picks_some : (a b : Bool) (n : ℕ) → a ≡ true → b ≡ true → Some n ≡ (if a && b then Some n else None)
picks_some a b n ea eb = rw (ea, eb) refl

number_of_text : (text : List ℕ) (v n : ℕ) → v ≡ n → text ≡ decimal n → n < 2 ^ 64 → Some n ≡ (if bytes_eq text (decimal v) && nat_lt v (2 ^ 64) then Some v else None)
number_of_text text v n e is small = rw e (picks_some _ _ n ((bytes_eq-Decides text (decimal n)).1 is) ((Decides-ltb n (2 ^ 64)).1 small))

-- what a reader of decimal numbers finds is the number of the text
pub is_decimal_number : (text : List ℕ) (o : Option ℕ) → IfSome o (λ n. n < 2 ^ 64) → IfSome o (λ n. text ≡ decimal n) → IfNone o ((n : ℕ) → n < 2 ^ 64 → text ≡ decimal n → ⊥) → o ≡ decimal_number text
is_decimal_number text None small found none =
    picks_none (bytes_eq text (decimal (digits_value 10 text))) (nat_lt (digits_value 10 text) (2 ^ 64)) (digits_value 10 text)
    (λ same below. none (digits_value 10 text) ((Decides-ltb (digits_value 10 text) (2 ^ 64)).0 below) ((bytes_eq-Decides text (decimal (digits_value 10 text))).0 same))
is_decimal_number text (Some n) small found none =
    number_of_text text (digits_value 10 text) n (subst (λ (t : List ℕ). digits_value 10 t ≡ n) (sym found) (digits_value-decimal own n small)) found small
