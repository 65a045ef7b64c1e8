use Rattle.std.proofs.Common.{◌≡◌, length}
use Rattle.summary_text.specs.Runs.{runs_of}
use Rattle.summary_text.specs.Inside.{with_blocks}
use Rattle.summary_text.proofs.runs.block_runs.Given as goal

-- with the numbers that are still to come behind them, the runs are those of all
abbrev pub invariant-loop-block : goal.invariant-loop-block
invariant-loop-block l = with_blocks l.runs.items l.left ≡ runs_of l.blocks

abbrev pub decreases-loop-block : goal.decreases-loop-block
decreases-loop-block l = length l.left
