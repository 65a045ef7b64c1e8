use Rattle.std.specs.Vec.Iter.{into_iter_items}
use Rattle.summary_file.proofs.ForksFound.{ForksSoFar}
use Rattle.summary_file.proofs.forks.forks_in.Given as goal

abbrev pub invariant-loop-fork : goal.invariant-loop-fork
invariant-loop-fork l = ForksSoFar l.fn.numbers.items (into_iter_items l.fork-iterator) l.forks.items
