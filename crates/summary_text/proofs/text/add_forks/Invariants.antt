use Rattle.std.proofs.Common.{◌≡◌, ◌++◌, length}
use Rattle.summary_text.specs.Text.{summary_text}
use Rattle.summary_text.proofs.text.add_forks.Given as goal

-- the lines so far, and those of the forks that are still to come
abbrev pub invariant-loop-fork : goal.invariant-loop-fork
invariant-loop-fork l =
    l.lines.items ++ summary_text l.left ≡ l.fn.lines.items ++ summary_text l.forks

abbrev pub decreases-loop-fork : goal.decreases-loop-fork
decreases-loop-fork l = length l.left
