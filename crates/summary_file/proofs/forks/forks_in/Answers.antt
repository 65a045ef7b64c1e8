use Rattle.std.specs.Vec.Iter.{into_iter_items}
use Rattle.summary_file.proofs.ForksFound.{no_forks, next_fork}
use Rattle.summary_file.proofs.forks.forks_in.Goals as goal

pub returns-in_default : goal.returns-in_default
returns-in_default c =
    no_forks c.args.numbers.items c.loop-fork.invariant.0 (into_iter_items c.loop-fork.fork-iterator) (into_iter_items c.next.new.self) c.in-Some.fork c.loop-fork.invariant.1 c.in-Some.ensures.steps.0 c.in_default.ensures.none

pub loop-fork-preserved : goal.loop-fork-preserved
loop-fork-preserved c =
    next_fork c.args.numbers.items (into_iter_items c.loop-fork.fork-iterator) (into_iter_items c.next.new.self) c.in-Some.fork c.loop-fork.forks.items c.push.new.self.items c.in-Some-fork_in.fork c.loop-fork.invariant c.in-Some.ensures.steps.0 c.in-Some-fork_in.ensures.found c.in_ok-push.ensures.items
