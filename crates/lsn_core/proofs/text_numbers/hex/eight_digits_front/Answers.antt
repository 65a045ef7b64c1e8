-- Eight upper-case digits are those of the value that is read.
use Rattle.std.proofs.Common.{sym, ◌∙◌, arith}
use Rattle.lsn_core.proofs.text_numbers.EightDigits.{eight_found, not_upper, not_read}
use Rattle.lsn_core.proofs.text_numbers.hex.eight_digits_front.Goals as goal

pub returns-then-not-is_upper_digits-clause-none : goal.returns-then-not-is_upper_digits-clause-none
returns-then-not-is_upper_digits-clause-none c = not_upper c.args.text.now c.split_at.result.0.now c.split_at.ensures.front (sym c.if-not-is_upper_digits.ensures)

pub returns-in-Some-clause-found : goal.returns-in-Some-clause-found
returns-in-Some-clause-found c =
    eight_found c.args.text.now c.split_at.result.0.now c.split_at.result.1.now c.in-Some.number c.split_at.ensures.front c.split_at.ensures.back (omega (arith, c.if-text-lt8.false)) (sym c.if-not-is_upper_digits.ensures)
    (sym c.hex_digits_in.ensures ∙ c.in-Some.is)

pub returns-in-None-clause-none : goal.returns-in-None-clause-none
returns-in-None-clause-none c = not_read c.args.text.now c.split_at.result.0.now c.split_at.ensures.front (sym c.hex_digits_in.ensures ∙ c.in-None.is)
