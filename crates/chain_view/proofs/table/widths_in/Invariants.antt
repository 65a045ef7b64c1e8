use Rattle.std.proofs.Common.{◌≡◌, replicate, length}
use Rattle.chain_view.specs.Table.{widths_in}
use Rattle.chain_view.proofs.table.widths_in.Given as goal

-- the widths for the lines so far are made enough for those that are still to come
abbrev pub invariant-loop-line : goal.invariant-loop-line
invariant-loop-line l = widths_in l.widths.items l.left ≡ widths_in (replicate 9 0) l.lines

abbrev pub decreases-loop-line : goal.decreases-loop-line
decreases-loop-line l = length l.left
