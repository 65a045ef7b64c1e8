use Rattle.std.proofs.Common.{length}
use Rattle.backup_sending.proofs.Lengths.{NotedSoFar}
use Rattle.backup_sending.proofs.listing.note_all.Given as goal

-- all lengths but those that are left were noted
abbrev pub invariant-loop-fork : goal.invariant-loop-fork
invariant-loop-fork l = NotedSoFar l.list l.left l.fn.known l.known

abbrev pub decreases-loop-fork : goal.decreases-loop-fork
decreases-loop-fork l = length l.left
