use Rattle.std.proofs.Common.{◌≡◌, ◌-◌, replicate}
use Rattle.store_lifecycle.specs.Starts.{fresh_passes}
use Rattle.store_locks.specs.Locked.{empty_shares}
use Rattle.store_lifecycle.proofs.enlisting.enlist.Given as goal

-- the first workers are there
abbrev pub invariant-loop-worker : goal.invariant-loop-worker
invariant-loop-worker g l = record {
  passes : l.passes.items ≡ fresh_passes l.worker l.fn.pen;
  counts : l.counts.items ≡ replicate l.worker 0;
  same : l.pen ≡ l.fn.pen;
  left : l.pool ≡ empty_shares (l.workers - l.worker);
}
