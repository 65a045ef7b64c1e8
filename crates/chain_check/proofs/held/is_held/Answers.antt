use Rattle.std.proofs.Common.{◌∙◌, sym}
use Rattle.chain_check.proofs.HeldForms.{other_held, same_held, form_held}
use Rattle.chain_check.proofs.held.is_held.Goals as goal

pub returns-in_default-clause-held : goal.returns-in_default-clause-held
returns-in_default-clause-held c = λ t. other_held c.args.rows.now c.args.path.now c.in_default.ensures.none

pub returns-then-has_path-clause-held : goal.returns-then-has_path-clause-held
returns-then-has_path-clause-held c = λ t. same_held c.args.rows.now c.args.path.now (sym c.has_path.ensures ∙ c.if-has_path.true)

pub returns-clause-held : goal.returns-clause-held
returns-clause-held c =
    (form_held c.args.rows.now c.args.path.now c.as_bytes.result.now c.in-Some.folder.now c.in-Some.name.now c.has_path-2.result c.in-Some.ensures.placed c.in-Some.ensures.found (sym c.has_path.ensures ∙ c.if-has_path.false)
    (c.as_bytes.ensures ∙ c.in_ok-plain.ensures) c.has_path-2.ensures).0

pub returns-clause-lacks : goal.returns-clause-lacks
returns-clause-lacks c =
    (form_held c.args.rows.now c.args.path.now c.as_bytes.result.now c.in-Some.folder.now c.in-Some.name.now c.has_path-2.result c.in-Some.ensures.placed c.in-Some.ensures.found (sym c.has_path.ensures ∙ c.if-has_path.false)
    (c.as_bytes.ensures ∙ c.in_ok-plain.ensures) c.has_path-2.ensures).1
