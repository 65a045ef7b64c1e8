use Rattle.std.proofs.Common.{[], length, Option, Some, None, unwrap_or, sym, ap, ◌∙◌}
use Rattle.lsn_core.specs.Store.{ForkPages}
use Rattle.history.proofs.StoreMap.{get_found}
use Rattle.history.proofs.page_map.length_in.Goals as goal

pub returns-in-Some : goal.returns-in-Some
returns-in-Some c =
    (c.len.ensures ∙ c.in-Some.pages.now.ok.0)
    ∙ sym (ap (λ (o : Option ForkPages). length (unwrap_or o [])) (get_found c.args.forks.now c.args.fork.now (Some c.in-Some.pages.now) c.in-Some.ensures.value))

pub returns-in-None : goal.returns-in-None
returns-in-None c = sym (ap (λ (o : Option ForkPages). length (unwrap_or o [])) (get_found c.args.forks.now c.args.fork.now None c.in-None.ensures.value))
