use Rattle.std.proofs.Common.{◌≡◌, Some, refl}
use Rattle.serde_json.specs.View.{view, members_view}
use Rattle.serde_json.specs.Find.{as_object}
use Rattle.serde_json.proofs.Views.{members_len-members_view}
use Rattle.manifest.proofs.values.has_keys.Goals as goal

pub returns-in-Some : goal.returns-in-Some
returns-in-Some c =
    let e : Some (members_view c.in-Some.map.now.entries) ≡ as_object (view c.args.value.now) = rw c.in-Some.is at c.as_object.ensures in
    rw (← e, members_len-members_view, c.len.ensures.len) refl
