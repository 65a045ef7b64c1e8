use Rattle.page_pool.proofs.Behind.{acts_entered}
use Rattle.page_pool.proofs.laws.acts_are_entered.Goals as goal

pub returns : goal.returns
returns c = acts_entered
