use Rattle.std.proofs.Common.{length}
use Rattle.shared_summaries.specs.summary_publish.Inside.{HaveCounts}
use Rattle.shared_summaries.proofs.summary_publish.reading.read_counts.Given as goal

abbrev pub invariant-loop-rec : goal.invariant-loop-rec
invariant-loop-rec l = HaveCounts l.left → HaveCounts l.piece

abbrev pub decreases-loop-rec : goal.decreases-loop-rec
decreases-loop-rec l = length l.left
