use Rattle.page_pool.proofs.Followed.{one_written, writes_followed, cleaning_followed}
use Rattle.page_pool.proofs.laws.writes_are_followed.Goals as goal

pub returns-clause-one : goal.returns-clause-one
returns-clause-one c = one_written

pub returns-clause-some : goal.returns-clause-some
returns-clause-some c = writes_followed

pub returns-clause-all : goal.returns-clause-all
returns-clause-all c = cleaning_followed
