-- std reads hexadecimal digits.
use Rattle.std.proofs.Common.{sym, arith}
use Rattle.lsn_core.proofs.text_numbers.Hexadecimal.{is_text, hex_read}
use Rattle.lsn_core.proofs.text_numbers.hex.hex_digits_in.Goals as goal

pub returns-in-Ok : goal.returns-in-Ok
returns-in-Ok c = rw c.in-Ok.ensures.cases.0 at (hex_read c.in-Ok.digits.now c.from_str_radix.result c.ok.result c.ok.ensures.value c.from_str_radix.ensures.value (rw c.in-Ok.ensures.cases.0 (omega (arith, c.if-text-gt8.false))) (rw c.in-Ok.ensures.cases.0 (sym c.if-not-is_hex_digits.ensures)))

pub returns-in-Err : goal.returns-in-Err
returns-in-Err c = absurd (c.in-Err.ensures.cases.0 (is_text c.args.text.now (sym c.if-not-is_hex_digits.ensures)))
