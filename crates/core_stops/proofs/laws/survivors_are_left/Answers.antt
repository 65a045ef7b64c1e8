use Rattle.core_stops.proofs.Runs.{survivors_now, survivors_moments, records_now, records_moments}
use Rattle.core_stops.proofs.laws.survivors_are_left.Goals as goal

pub returns-clause-now : goal.returns-clause-now
returns-clause-now c = survivors_now

pub returns-clause-moments : goal.returns-clause-moments
returns-clause-moments c = survivors_moments

pub returns-clause-records_now : goal.returns-clause-records_now
returns-clause-records_now c = records_now

pub returns-clause-records_moments : goal.returns-clause-records_moments
returns-clause-records_moments c = records_moments
