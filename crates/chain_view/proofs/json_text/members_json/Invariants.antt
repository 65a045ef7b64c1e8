use Rattle.std.proofs.Common.{◌≡◌, ◌+◌, length}
use Rattle.serde_json.specs.Data.{no_members}
use Rattle.serde_json.specs.View.{members_view}
use Rattle.chain_view.specs.Json.{members_json}
use Rattle.chain_view.proofs.json_text.members_json.Given as goal

-- the members so far, and those of the cells that are still to come
abbrev pub invariant-loop-cell : goal.invariant-loop-cell
invariant-loop-cell l = record {
  place : l.place + length l.left ≡ length l.line;
  members : members_json l.place l.left (members_view l.members.entries) ≡ members_json 0 l.line no_members;
}

abbrev pub decreases-loop-cell : goal.decreases-loop-cell
decreases-loop-cell l = length l.left
