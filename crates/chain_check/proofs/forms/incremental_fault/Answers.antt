use Rattle.std.proofs.Common.{◌≡◌, ◌∙◌, sym, subst, length, Option, IfOk, IfSome}
use Rattle.lsn_core.specs.Files.{Files}
use Rattle.vault.specs.Area.{bytes_of}
use Rattle.chain_check.specs.Inside.{HeadWhy}
use Rattle.std.specs.FinMap.{get}
use Rattle.std.specs.Option.{option_map}
use Rattle.lsn_core.specs.byte_words.Told.{when_told}
use Rattle.chain_check.proofs.ForkFiles.{both_forms, told_form}
use Rattle.chain_check.proofs.forms.incremental_fault.Goals as goal

pub returns-then-is_some-clause-why : goal.returns-then-is_some-clause-why
returns-then-is_some-clause-why g c =
    when_told (g.V.Vault.files c.args.area.now) (λ m. c.in_ok-size.field-0 ≡ option_map length (get m c.as_bytes.result.now)) _
    (λ m sized. both_forms m c.args.row.now c.args.folder.now c.args.name.now c.as_bytes.result.now c.in_ok-size.field-0 c.requires.placed c.requires.spelled (c.as_bytes.ensures ∙ c.in_ok-plain.ensures) sized (sym c.is_some.ensures ∙ c.if-is_some.true))
    c.in_ok-size.ensures.size

pub returns-clause-why : goal.returns-clause-why
returns-clause-why g c =
    told_form (g.V.Vault.files c.args.area.now) c.args.row.now c.args.folder.now c.args.name.now c.as_bytes.result.now c.in_ok-size.field-0 c.head_why.result c.requires.placed c.requires.spelled (c.as_bytes.ensures ∙ c.in_ok-plain.ensures) (sym c.is_some.ensures ∙ c.if-is_some.false)
    c.in_ok-size.ensures.size
    (subst (λ (o : Option Files). IfOk c.head_why.result (λ why. IfSome o (λ m. HeadWhy (bytes_of m c.args.row.now.path) c.args.row.now.size why))) c.in_ok-size.ensures.same c.head_why.ensures.why)
