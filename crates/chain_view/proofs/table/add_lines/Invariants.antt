use Rattle.std.proofs.Common.{◌≡◌, ◌++◌, length}
use Rattle.chain_view.specs.Table.{lines_text}
use Rattle.chain_view.proofs.table.add_lines.Given as goal

-- the text so far, and the lines that are still to come
abbrev pub invariant-loop-line : goal.invariant-loop-line
invariant-loop-line l = l.text.items ++ lines_text l.widths l.left ≡ l.fn.text.items ++ lines_text l.widths l.lines

abbrev pub decreases-loop-line : goal.decreases-loop-line
decreases-loop-line l = length l.left
