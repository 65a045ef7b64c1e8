use Rattle.backup_laws.proofs.OwnLeft.{own_left, new_own, since_init}
use Rattle.backup_laws.proofs.WalsLeft.{wals_whole, runs_go_on, scripts_go_on}
use Rattle.backup_laws.proofs.laws.runs_leave_their_own.Goals as goal

pub returns-clause-whole : goal.returns-clause-whole
returns-clause-whole c = wals_whole

pub returns-clause-on : goal.returns-clause-on
returns-clause-on c = runs_go_on

pub returns-clause-made : goal.returns-clause-made
returns-clause-made c = scripts_go_on

pub returns-clause-own : goal.returns-clause-own
returns-clause-own c = own_left

pub returns-clause-first : goal.returns-clause-first
returns-clause-first c = new_own

pub returns-clause-all : goal.returns-clause-all
returns-clause-all c = since_init
