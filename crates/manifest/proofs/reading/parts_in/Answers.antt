use Rattle.std.proofs.Common.{Some, sym, ap, ◌∙◌}
use Rattle.serde_json.specs.View.{view}
use Rattle.manifest.specs.Shape.{Top}
use Rattle.manifest.proofs.Parts.{no_range}
use Rattle.manifest.proofs.reading.parts_in.Goals as goal

pub returns-in_default : goal.returns-in_default
returns-in_default c =
    let top : Top = record { system = c.top.inside.system; rows = c.top.inside.rows.items; range = c.top.inside.range } in
    no_range c.args.version (view c.args.value.now) top (c.in_ok-top.ensures ∙ ap (λ (t : Top). Some t) (sym c.top.view_is)) c.in_default.ensures.none
