use Rattle.history.proofs.fuzzy_copies.Summaries.{meet}
use Rattle.history.proofs.fuzzy_copies.increments.summaries_meet.Goals as goal

pub returns : goal.returns
returns c = meet
