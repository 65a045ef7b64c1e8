use Rattle.std.proofs.Common.{◌≡◌, ◌++◌, replicate}
use Rattle.chain_view.proofs.table.add_blanks.Given as goal

-- the text so far, and the blanks that are still to come
abbrev pub invariant-loop-left : goal.invariant-loop-left
invariant-loop-left l = l.text.items ++ replicate l.left 32 ≡ l.fn.text.items ++ replicate l.count 32

abbrev pub decreases-loop-left : goal.decreases-loop-left
decreases-loop-left l = l.left
