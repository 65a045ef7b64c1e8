use Rattle.progress.proofs.Lines.{apart}
use Rattle.progress.proofs.pace.lines_are_a_second_apart.Goals as goal

pub returns : goal.returns
returns c = apart
