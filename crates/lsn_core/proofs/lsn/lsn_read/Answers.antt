use Rattle.std.proofs.Common.{ℕ, Some, sym, ap, ◌∙◌}
use Rattle.lsn_core.proofs.byte_words.Cutting.{none_anyway}
use Rattle.lsn_core.proofs.LsnTexts.{not_cut, not_high, not_low, is_lsn}
use Rattle.lsn_core.proofs.lsn.lsn_read.Goals as goal

pub returns-in_err-high-clause-none : goal.returns-in_err-high-clause-none
returns-in_err-high-clause-none c = none_anyway c.from_residual.result _ (not_cut c.args.text.now (sym c.in_err-high.ensures))

pub returns-in_err-hex_digits_in-clause-none : goal.returns-in_err-hex_digits_in-clause-none
returns-in_err-hex_digits_in-clause-none c = none_anyway c.from_residual-in_err-hex_digits_in.result _ (not_high c.args.text.now c.in_ok-high.high.now c.in_ok-high.low.now (sym c.in_ok-high.ensures) (sym c.in_err-hex_digits_in.ensures))

pub returns-in_err-hex_digits_in-2-clause-none : goal.returns-in_err-hex_digits_in-2-clause-none
returns-in_err-hex_digits_in-2-clause-none c = none_anyway c.from_residual-in_err-hex_digits_in-2.result _ (not_low c.args.text.now c.in_ok-high.high.now c.in_ok-high.low.now (sym c.in_ok-high.ensures) (sym c.in_err-hex_digits_in-2.ensures))

pub returns-clause-found : goal.returns-clause-found
returns-clause-found c = is_lsn c.args.text.now c.in_ok-high.high.now c.in_ok-high.low.now c.from-high.result c.from-low.result (sym c.in_ok-high.ensures) (sym c.in_ok-hex_digits_in.ensures ∙ ap (λ (n : ℕ). Some n) (sym c.from-high.ensures)) (sym c.in_ok-hex_digits_in-2.ensures ∙ ap (λ (n : ℕ). Some n) (sym c.from-low.ensures))
