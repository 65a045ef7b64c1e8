use Rattle.history.proofs.Histories.{written_on}
use Rattle.history.proofs.laws.histories_are_written_on.Goals as goal

pub returns : goal.returns
returns c = written_on
