use Rattle.std.proofs.Common.{refl, subst, IsSome}
use Rattle.history.proofs.StoreMap.{set_there, set_missing}
use Rattle.history.proofs.undo.set_in.Goals as goal

pub returns-in-Some : goal.returns-in-Some
returns-in-Some c =
    set_there c.args.forks.now (c.get_mut.follows.lender c.set_page.new.pages) c.args.at.now c.args.page.now c.in-Some.pages.now c.set_page.new.pages c.in-Some.ensures.value
    ((c.get_mut.follows.holds c.set_page.new.pages).3 (subst IsSome c.in-Some.ensures.value refl)) c.set_page.ensures

pub returns-in_default : goal.returns-in_default
returns-in_default c = set_missing c.args.forks.now c.get_mut.follows.lender-at-none c.args.at.now c.args.page.now c.get_mut.follows.holds-at-none c.in_default.ensures.value
