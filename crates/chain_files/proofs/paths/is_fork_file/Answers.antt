use Rattle.chain_files.proofs.Placed.{incremental_named, no_forks}
use Rattle.chain_files.proofs.paths.is_fork_file.Goals as goal

pub returns-in-Some-clause-none : goal.returns-in-Some-clause-none
returns-in-Some-clause-none c = incremental_named c.args.path.now c.in-Some.field-0-0 c.in-Some.field-0-1 c.in-Some.incr c.in-Some.ensures.named c.in-Some.ensures.found

pub returns-in-None-clause-none : goal.returns-in-None-clause-none
returns-in-None-clause-none c = λ e. no_forks c.args.path.now c.in-None.ensures.none
