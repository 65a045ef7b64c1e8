use Rattle.command_line.proofs.LsnWords.{is_value}
use Rattle.command_line.proofs.options.lsn_in.Goals as goal

pub returns : goal.returns
returns c = is_value c.args.value.now c.lsn_read.result c.lsn_read.ensures.found c.lsn_read.ensures.none
