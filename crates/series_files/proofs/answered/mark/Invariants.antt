use Rattle.std.proofs.Common.{length}
use Rattle.series_files.proofs.Marked.{MarkedTo}
use Rattle.series_files.proofs.answered.mark.Given as goal

-- all blocks but those that are left were marked
abbrev pub invariant-loop-block : goal.invariant-loop-block
invariant-loop-block l = MarkedTo l.least l.blocks l.left l.fn.had l.had

abbrev pub decreases-loop-block : goal.decreases-loop-block
decreases-loop-block l = length l.left
