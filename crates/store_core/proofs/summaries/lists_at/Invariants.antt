use Rattle.std.proofs.Common.{◌≡◌, drop}
use Rattle.wal_summary.specs.Summary.{lists_at}
use Rattle.store_core.proofs.summaries.lists_at.Given as goal

abbrev pub invariant-loop-sum : goal.invariant-loop-sum
invariant-loop-sum l =
    lists_at l.fork l.block (drop l.sum-index l.forks) ≡ lists_at l.fork l.block l.forks
