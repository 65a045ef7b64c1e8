use Rattle.history.proofs.WrittenLaws.{written_is_applied}
use Rattle.history.proofs.laws.written_is_applied.Goals as goal

pub returns : goal.returns
returns c = written_is_applied
