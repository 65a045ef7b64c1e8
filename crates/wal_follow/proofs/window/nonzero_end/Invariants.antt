use Rattle.wal_follow.specs.Window.{IsLastNonzero}
use Rattle.wal_follow.proofs.window.nonzero_end.Given as goal

-- all behind are zeros
abbrev pub invariant-loop-end : goal.invariant-loop-end
invariant-loop-end l = IsLastNonzero l.piece l.end

abbrev pub decreases-loop-end : goal.decreases-loop-end
decreases-loop-end l = l.end
