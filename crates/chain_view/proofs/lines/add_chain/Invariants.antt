use Rattle.std.proofs.Common.{◌≡◌, ◌++◌, length}
use Rattle.chain_view.specs.Lines.{chain_lines}
use Rattle.chain_view.proofs.lines.add_chain.Given as goal

-- the lines so far, and those of the members that are still to come
abbrev pub invariant-loop-member : goal.invariant-loop-member
invariant-loop-member l = l.lines.items ++ chain_lines l.name l.left ≡ l.fn.lines.items ++ chain_lines l.name l.members

abbrev pub decreases-loop-member : goal.decreases-loop-member
decreases-loop-member l = length l.left
