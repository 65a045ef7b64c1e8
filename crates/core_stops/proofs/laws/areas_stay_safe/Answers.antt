use Rattle.core_stops.proofs.Runs.{areas_safe, stops_leave}
use Rattle.core_stops.proofs.laws.areas_stay_safe.Goals as goal

pub returns-clause-safe : goal.returns-clause-safe
returns-clause-safe c = areas_safe

pub returns-clause-moments : goal.returns-clause-moments
returns-clause-moments c = stops_leave
