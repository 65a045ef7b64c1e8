use Rattle.incr_file.proofs.Plans.{plan_written, listed_exactly}
use Rattle.incr_file.proofs.laws.plans_may_be_written.Goals as goal

pub returns-clause-written : goal.returns-clause-written
returns-clause-written c = plan_written

pub returns-clause-listed : goal.returns-clause-listed
returns-clause-listed c = listed_exactly
