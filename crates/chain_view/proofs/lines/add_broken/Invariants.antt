use Rattle.std.proofs.Common.{◌≡◌, ◌++◌, length}
use Rattle.chain_view.specs.Lines.{broken_lines}
use Rattle.chain_view.proofs.lines.add_broken.Given as goal

-- the lines so far, and those of the members that are still to come
abbrev pub invariant-loop-member : goal.invariant-loop-member
invariant-loop-member l = l.lines.items ++ broken_lines l.left ≡ l.fn.lines.items ++ broken_lines l.members

abbrev pub decreases-loop-member : goal.decreases-loop-member
decreases-loop-member l = length l.left
