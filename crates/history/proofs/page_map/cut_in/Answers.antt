use Rattle.std.proofs.Common.{refl, subst, IsSome}
use Rattle.history.proofs.StoreMap.{cut_there, cut_missing}
use Rattle.history.proofs.page_map.cut_in.Goals as goal

pub returns-in-Some : goal.returns-in-Some
returns-in-Some c =
    cut_there c.args.forks.now (c.get_mut.follows.lender c.truncate.new.self) c.args.fork.now c.args.count c.in-Some.pages.now c.truncate.new.self c.in-Some.ensures.value
    ((c.get_mut.follows.holds c.truncate.new.self).3 (subst IsSome c.in-Some.ensures.value refl)) c.truncate.ensures.items

pub returns-in_default : goal.returns-in_default
returns-in_default c = cut_missing c.args.forks.now c.get_mut.follows.lender-at-none c.args.fork.now c.args.count c.get_mut.follows.holds-at-none c.in_default.ensures.value
