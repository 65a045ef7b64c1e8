use Rattle.std.proofs.Common.{Some, None, sym, subst, ◌∙◌}
use Rattle.std.specs.List.Sorted.{IsStrictlyIncreasing}
use Rattle.backup_sending.proofs.Planned.{blocks_found, blocks_rise}
use Rattle.backup_sending.proofs.planning.blocks_in.Goals as goal

pub returns-in-Some-clause-blocks : goal.returns-in-Some-clause-blocks
returns-in-Some-clause-blocks c = c.as_slice.ensures ∙ blocks_found c.args.fork.now c.args.forks.now (Some c.in-Some.found.now) c.in-Some.ensures

pub returns-in-Some-clause-rising : goal.returns-in-Some-clause-rising
returns-in-Some-clause-rising c =
    subst IsStrictlyIncreasing (sym (c.as_slice.ensures ∙ blocks_found c.args.fork.now c.args.forks.now (Some c.in-Some.found.now) c.in-Some.ensures)) (blocks_rise c.args.fork.now c.args.forks.now c.requires)

pub returns-in-None-clause-blocks : goal.returns-in-None-clause-blocks
returns-in-None-clause-blocks c = blocks_found c.args.fork.now c.args.forks.now None c.in-None.ensures

pub returns-in-None-clause-rising : goal.returns-in-None-clause-rising
returns-in-None-clause-rising c = subst IsStrictlyIncreasing (sym (blocks_found c.args.fork.now c.args.forks.now None c.in-None.ensures)) (blocks_rise c.args.fork.now c.args.forks.now c.requires)
