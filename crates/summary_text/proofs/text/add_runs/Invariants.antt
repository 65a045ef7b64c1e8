use Rattle.std.proofs.Common.{◌≡◌, ◌++◌, length}
use Rattle.summary_text.specs.Text.{run_lines}
use Rattle.summary_text.proofs.text.add_runs.Given as goal

-- the lines so far, and those of the runs that are still to come
abbrev pub invariant-loop-run : goal.invariant-loop-run
invariant-loop-run l =
    l.lines.items ++ run_lines l.front l.left ≡ l.fn.lines.items ++ run_lines l.front l.runs

abbrev pub decreases-loop-run : goal.decreases-loop-run
decreases-loop-run l = length l.left
