use Rattle.std.proofs.Common.{◌≡◌, ◌++◌, length}
use Rattle.chain_view.specs.Lines.{chains_lines}
use Rattle.chain_view.proofs.lines.add_chains.Given as goal

-- the lines so far, and those of the chains that are still to come
abbrev pub invariant-loop-member : goal.invariant-loop-member
invariant-loop-member l = l.lines.items ++ chains_lines l.members l.left ≡ l.fn.lines.items ++ chains_lines l.members l.members

abbrev pub decreases-loop-member : goal.decreases-loop-member
decreases-loop-member l = length l.left
