use Rattle.journal.proofs.Ends.{ends_at_entry}
use Rattle.journal.proofs.laws.histories_end_at_an_entry.Goals as goal

pub returns : goal.returns
returns c = ends_at_entry
