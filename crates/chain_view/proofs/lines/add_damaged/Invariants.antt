use Rattle.std.proofs.Common.{◌≡◌, ◌++◌, length}
use Rattle.chain_view.specs.Lines.{damaged_lines}
use Rattle.chain_view.proofs.lines.add_damaged.Given as goal

-- the lines so far, and those of the folders that are still to come
abbrev pub invariant-loop-one : goal.invariant-loop-one
invariant-loop-one l = l.lines.items ++ damaged_lines l.left ≡ l.fn.lines.items ++ damaged_lines l.damaged

abbrev pub decreases-loop-one : goal.decreases-loop-one
decreases-loop-one l = length l.left
