use Rattle.std.proofs.Common.{Some, None}
use Rattle.backup_sending.proofs.Planned.{limit_found}
use Rattle.backup_sending.proofs.planning.limit_in.Goals as goal

pub returns-in-Some : goal.returns-in-Some
returns-in-Some c = limit_found c.args.fork.now c.args.forks.now (Some c.in-Some.found.now) c.in-Some.ensures

pub returns-in-None : goal.returns-in-None
returns-in-None c = limit_found c.args.fork.now c.args.forks.now None c.in-None.ensures
