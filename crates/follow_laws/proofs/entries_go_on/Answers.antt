-- Entries go on.
use Rattle.follow_laws.proofs.GoOn.{entries_go_on}
use Rattle.follow_laws.proofs.entries_go_on.Goals as goal

pub returns : goal.returns
returns c = entries_go_on
