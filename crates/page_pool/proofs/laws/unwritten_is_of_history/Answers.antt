use Rattle.page_pool.proofs.Ends.{unwritten_of_history}
use Rattle.page_pool.proofs.laws.unwritten_is_of_history.Goals as goal

pub returns : goal.returns
returns c = unwritten_of_history
