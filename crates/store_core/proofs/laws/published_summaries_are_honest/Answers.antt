use Rattle.store_core.proofs.Holds.{summaries_honest}
use Rattle.store_core.proofs.laws.published_summaries_are_honest.Goals as goal

pub returns : goal.returns
returns c = summaries_honest
