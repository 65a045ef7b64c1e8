use Rattle.restart_areas.proofs.Counted.{IsCountTo}
use Rattle.restart_areas.proofs.counting.count_list.Given as goal

abbrev pub invariant-loop-one : goal.invariant-loop-one
invariant-loop-one l = IsCountTo l.list l.one-index l.tally
