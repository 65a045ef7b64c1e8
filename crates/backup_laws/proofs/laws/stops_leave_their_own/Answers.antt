use Rattle.backup_laws.proofs.StopsLeft.{restarts_hold, stops_go_on, stops_find_own}
use Rattle.backup_laws.proofs.OverStops.{over_stops}
use Rattle.backup_laws.proofs.laws.stops_leave_their_own.Goals as goal

pub returns-clause-restarted : goal.returns-clause-restarted
returns-clause-restarted c = restarts_hold

pub returns-clause-on : goal.returns-clause-on
returns-clause-on c = stops_go_on

pub returns-clause-own : goal.returns-clause-own
returns-clause-own c = stops_find_own

pub returns-clause-all : goal.returns-clause-all
returns-clause-all c = over_stops
