use Rattle.std.proofs.Common.{rules}
use Rattle.command_line.proofs.OptionWords.{is_decimal_number}
use Rattle.command_line.proofs.options.number_in.Goals as goal

pub returns : goal.returns
returns c = is_decimal_number c.args.value.now c.decimal_in.result (search rules) c.decimal_in.ensures.found c.decimal_in.ensures.none
