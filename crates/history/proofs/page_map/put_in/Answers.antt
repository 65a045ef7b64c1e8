use Rattle.std.proofs.Common.{Some, refl, subst, IsSome}
use Rattle.std.proofs.lemmas.Result.{on_ok_weaker, on_err_weaker}
use Rattle.history.proofs.StoreMap.{written, written_new, kept}
use Rattle.history.proofs.page_map.put_in.Goals as goal

pub returns-in-Some-clause-put : goal.returns-in-Some-clause-put
returns-in-Some-clause-put c =
    on_ok_weaker c.put_block.result
    (written c.args.forks.now (c.get_mut.follows.lender c.put_block.new.pages) c.args.at.now.fork c.args.at.now.block c.args.page.now (Some c.in-Some.pages.now) c.put_block.new.pages c.in-Some.ensures.value
    ((c.get_mut.follows.holds c.put_block.new.pages).3 (subst IsSome c.in-Some.ensures.value refl)))
    c.put_block.ensures.put

pub returns-in-Some-clause-same : goal.returns-in-Some-clause-same
returns-in-Some-clause-same c =
    on_err_weaker c.put_block.result
    (kept c.args.forks.now (c.get_mut.follows.lender c.put_block.new.pages) c.args.at.now.fork c.in-Some.pages.now c.put_block.new.pages c.in-Some.ensures.value
    ((c.get_mut.follows.holds c.put_block.new.pages).3 (subst IsSome c.in-Some.ensures.value refl)))
    c.put_block.ensures.same

pub returns-clause-put : goal.returns-clause-put
returns-clause-put c =
    written_new c.args.forks.now c.get_mut.follows.lender-at-none c.insert.new.self c.args.at.now.fork c.args.at.now.block c.args.page.now c.new-pages.result c.put_block-2.new.pages
    c.get_mut.follows.holds-at-none c.in_default.ensures.value c.in_ok-insert.ensures.updates c.new-pages.ensures.items c.in_ok-put_block.ensures.put
