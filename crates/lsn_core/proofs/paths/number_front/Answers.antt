use Rattle.std.proofs.Common.{arith}
use Rattle.lsn_core.proofs.ForkPaths.{too_large}
use Rattle.lsn_core.proofs.paths.number_front.Goals as goal

pub returns-in-Err-clause-none : goal.returns-in-Err-clause-none
returns-in-Err-clause-none c = too_large c.args.text.now c.in_ok-number.tail.now c.in_ok-number.number c.in_ok-number.ensures.found c.in_ok-number.ensures.small (omega (arith, c.in-Err.ensures))
