use Rattle.std.proofs.Common.{◌∙◌, ap, List}
use Rattle.serde_json.specs.Data.{Data}
use Rattle.serde_json.specs.View.{items_of}
use Rattle.serde_json.specs.Written.{items_have_float}
use Rattle.chain_view.proofs.NoFloats.{no_floats}
use Rattle.chain_view.proofs.json_text.listing_json.Goals as goal

pub array_line-requires : goal.array_line-requires
array_line-requires c =
    ap (λ (values : List Data). items_have_float (items_of values)) c.in_ok-values.ensures ∙ no_floats c.args.lines.now
