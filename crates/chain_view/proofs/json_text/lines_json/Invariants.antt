use Rattle.std.proofs.Common.{◌≡◌, ◌++◌, map, length}
use Rattle.serde_json.specs.View.{view}
use Rattle.chain_view.specs.Json.{lines_json}
use Rattle.chain_view.proofs.json_text.lines_json.Given as goal

-- the values so far, and those of the lines that are still to come
abbrev pub invariant-loop-line : goal.invariant-loop-line
invariant-loop-line l = map view l.values.items ++ lines_json l.left ≡ lines_json l.lines

abbrev pub decreases-loop-line : goal.decreases-loop-line
decreases-loop-line l = length l.left
