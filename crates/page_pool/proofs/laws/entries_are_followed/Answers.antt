use Rattle.page_pool.proofs.Followed.{own_followed, others_followed}
use Rattle.page_pool.proofs.laws.entries_are_followed.Goals as goal

pub returns-clause-own : goal.returns-clause-own
returns-clause-own c = own_followed

pub returns-clause-others : goal.returns-clause-others
returns-clause-others c = others_followed
