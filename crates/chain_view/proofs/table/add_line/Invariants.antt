use Rattle.std.proofs.Common.{◌≡◌, ◌++◌, length}
use Rattle.chain_view.specs.Table.{cells_text}
use Rattle.chain_view.proofs.table.add_line.Given as goal

-- the text so far, and the cells that are still to come
abbrev pub invariant-loop-cell : goal.invariant-loop-cell
invariant-loop-cell l = l.text.items ++ cells_text l.columns l.left ≡ l.fn.text.items ++ cells_text l.widths l.line

abbrev pub decreases-loop-cell : goal.decreases-loop-cell
decreases-loop-cell l = length l.left
