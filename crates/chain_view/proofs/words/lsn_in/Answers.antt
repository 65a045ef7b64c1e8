use Rattle.chain_view.proofs.LsnWords.{is_value}
use Rattle.chain_view.proofs.words.lsn_in.Goals as goal

pub returns : goal.returns
returns c = is_value c.args.value.now c.lsn_read.result c.lsn_read.ensures.found c.lsn_read.ensures.none
