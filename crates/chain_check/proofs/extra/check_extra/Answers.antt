use Rattle.std.proofs.Common.{◌≡◌, ◌∙◌, sym, ap, List, ℕ, Some, None}
use Rattle.std.specs.FinMap.{keys}
use Rattle.lsn_core.specs.byte_words.Told.{when_told}
use Rattle.chain_check.specs.Refusals.{extra_fault}
use Rattle.chain_check.specs.declared.fault.ChainFault.TheVariants.{FileExtra}
use Rattle.chain_check.proofs.Others.{extra_is}
use Rattle.chain_check.proofs.extra.check_extra.Goals as goal

pub returns-in-Some-clause-answer : goal.returns-in-Some-clause-answer
returns-in-Some-clause-answer g c =
    when_told (g.V.Vault.files c.args.area.now) (λ m. c.in_ok-names.names.items ≡ keys m) (λ m. extra_fault m c.args.rows.now ≡ Some (FileExtra c.in_ok-copied-in-Some.field-0))
    (λ m e. extra_is m c.args.rows.now c.deref.result.now (Some c.in-Some.name.now) (c.deref.ensures.value ∙ e) c.in-Some.ensures ∙ ap (λ (name : List ℕ). Some (FileExtra name)) (sym (c.in_ok-copied-in-Some.ensures ∙ c.as_bytes.ensures)))
    c.in_ok-names.ensures.names

pub returns-clause-answer : goal.returns-clause-answer
returns-clause-answer g c =
    when_told (g.V.Vault.files c.args.area.now) (λ m. c.in_ok-names.names.items ≡ keys m) (λ m. extra_fault m c.args.rows.now ≡ None)
    (λ m e. extra_is m c.args.rows.now c.deref.result.now None (c.deref.ensures.value ∙ e) c.in-None.ensures)
    c.in_ok-names.ensures.names
