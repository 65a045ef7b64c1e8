use Rattle.std.proofs.Common.{◌≡◌, ◌++◌, map, length}
use Rattle.serde_json.specs.View.{view}
use Rattle.chain_view.specs.Json.{names_json}
use Rattle.chain_view.proofs.json_text.names_json.Given as goal

-- the values so far, and those of the names that are still to come
abbrev pub invariant-loop-name : goal.invariant-loop-name
invariant-loop-name l = map view l.values.items ++ names_json l.left ≡ names_json l.names

abbrev pub decreases-loop-name : goal.decreases-loop-name
decreases-loop-name l = length l.left
