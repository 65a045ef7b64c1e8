use Rattle.std.proofs.Common.{◌∙◌, sym, ap}
use Rattle.chain_check.specs.declared.member.Member.{Member}
use Rattle.chain_check.proofs.Judged.{by_files}
use Rattle.chain_check.proofs.chain.check_later.Goals as goal

pub returns-in-None : goal.returns-in-None
returns-in-None c =
    by_files c.args.prior.now c.args.member.now c.deref.result.now c.deref-in-None.result.now c.check_held.result
    (c.deref.ensures.value ∙ ap (λ (m : Member). m.manifest.files) c.prior.view_is) (c.deref-in-None.ensures.value ∙ ap (λ (m : Member). m.manifest.files) c.member.view_is)
    (sym c.in-None.ensures) c.check_held.ensures
