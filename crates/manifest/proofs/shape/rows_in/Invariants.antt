use Rattle.std.proofs.Common.{◌≡◌, drop}
use Rattle.serde_json.specs.View.{items_view}
use Rattle.manifest.specs.Shape.{rows_in}
use Rattle.manifest.proofs.Rows.{after}
use Rattle.manifest.proofs.shape.rows_in.Given as goal

-- the rows so far, and those of the values that are still to come, are those of the list
abbrev pub invariant-loop-value : goal.invariant-loop-value
invariant-loop-value l = record {
  rows : rows_in (items_view l.fn.list.items) ≡ after l.rows.items (rows_in (items_view (drop l.value-index l.value-items)));
}
