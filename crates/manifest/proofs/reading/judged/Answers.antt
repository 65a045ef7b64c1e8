use Rattle.serde_json.specs.View.{view}
use Rattle.manifest.proofs.Parts.{no_parts, passed_on}
use Rattle.manifest.proofs.reading.judged.Goals as goal

pub returns-in_err-parts : goal.returns-in_err-parts
returns-in_err-parts c =
    let d = view c.args.value.now in
    let fault = c.in_err-parts.field-0.0 in
    let of = c.in_ok-version.ensures in
    passed_on d fault c.from_residual-in_err-parts.result c.from_residual-in_err-parts.ensures.1 (no_parts c.in_ok-version.version d fault of.0 of.1 c.in_err-parts.ensures)
