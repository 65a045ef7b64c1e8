use Rattle.std.proofs.Common.{◌≡◌, ◌++◌, length, All}
use Rattle.manifest.specs.Text.{rows_text, IsWritableRow}
use Rattle.manifest.proofs.writing.add_rows.Given as goal

-- the lines so far, and those of the rows that are still to come
abbrev pub invariant-loop-row : goal.invariant-loop-row
invariant-loop-row l = record {
  writable : All IsWritableRow l.left;
  lines : l.lines.items ++ rows_text l.left ≡ l.fn.lines.items ++ rows_text l.rows;
}

abbrev pub decreases-loop-row : goal.decreases-loop-row
decreases-loop-row l = length l.left
