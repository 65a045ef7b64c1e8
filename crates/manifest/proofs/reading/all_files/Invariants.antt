use Rattle.std.proofs.Common.{◌≡◌}
use Rattle.std.specs.Vec.Iter.{into_iter_items}
use Rattle.manifest.specs.Kinds.{all_files}
use Rattle.manifest.proofs.Rows.{after}
use Rattle.manifest.proofs.reading.all_files.Given as goal

-- the files so far, and those of the rows that are still to come, are those of all rows
abbrev pub invariant-loop-row : goal.invariant-loop-row
invariant-loop-row l = record {
  files : all_files l.fn.rows.items ≡ after l.files.items (all_files (into_iter_items l.row-iterator));
}
