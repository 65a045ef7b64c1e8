-- A number's text is digits without a zero in front, and such digits are the text of their value.
use Rattle.std.proofs.Common.{IsTrue, false, refl, sym}
use Rattle.lsn_core.proofs.text_numbers.Decimal.{not_digits, zero_first, found_text, none_text}
use Rattle.lsn_core.proofs.text_numbers.reading.decimal_in.Goals as goal
use Rattle.lsn_core.proofs.text_numbers.reading.decimal_in.Goals.{then-not-is_digits-via-then-not-is_digits, then-not-is_digits-via-else-not-is_digits+then-starts_with_zero}

pub returns-then-not-is_digits-clause-none : goal.returns-then-not-is_digits-clause-none
returns-then-not-is_digits-clause-none c =
    elim c.then-not-is_digits.branch [
      | then-not-is_digits-via-then-not-is_digits w ↦ not_digits c.args.text.now (sym w.if-not-is_digits.ensures)
      | then-not-is_digits-via-else-not-is_digits+then-starts_with_zero w ↦ zero_first c.args.text.now (w.if-starts_with_zero.ensures.0 refl)
    ]

pub returns-clause-found : goal.returns-clause-found
returns-clause-found c = found_text c.args.text.now c.value_of.result (sym c.if-not-is_digits.ensures) (λ p. let never : IsTrue false = c.if-starts_with_zero.ensures.1 p in cc) c.value_of.ensures.some c.value_of.ensures.value c.value_of.ensures.small

pub returns-clause-none : goal.returns-clause-none
returns-clause-none c = none_text c.args.text.now c.value_of.result c.value_of.ensures.none
