use Rattle.std.proofs.Common.{◌≡◌, max, map, take}
use Rattle.std.specs.List.{reduce}
use Rattle.page_pool.proofs.partition.newest_work.Given as goal

abbrev pub invariant-loop-pending : goal.invariant-loop-pending
invariant-loop-pending l = l.newest ≡ reduce max (map (λ w. w.end.0) (take l.pending-index l.works))
