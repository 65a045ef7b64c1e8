use Rattle.std.proofs.Common.{◌≡◌, drop}
use Rattle.wal_summary.specs.Summary.{limit_at}
use Rattle.store_core.proofs.summaries.limit_at.Given as goal

abbrev pub invariant-loop-sum : goal.invariant-loop-sum
invariant-loop-sum l = limit_at l.fork (drop l.sum-index l.forks) ≡ limit_at l.fork l.forks
