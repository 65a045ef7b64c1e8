use Rattle.std.proofs.Common.{◌≡◌, ◌++◌, length}
use Rattle.chain_view.specs.Table.{wider}
use Rattle.chain_view.proofs.table.wider.Given as goal

-- the widths so far, and those of the columns that are still to come
abbrev pub invariant-loop-width : goal.invariant-loop-width
invariant-loop-width l = l.wide.items ++ wider l.left l.cells ≡ wider l.widths l.line

abbrev pub decreases-loop-width : goal.decreases-loop-width
decreases-loop-width l = length l.left
