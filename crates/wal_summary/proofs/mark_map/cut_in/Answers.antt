use Rattle.std.proofs.Common.{Some, refl, subst, IsSome}
use Rattle.std.proofs.lemmas.Result.{on_ok_weaker}
use Rattle.wal_summary.proofs.Maps.{cut, cut_new}
use Rattle.wal_summary.proofs.mark_map.cut_in.Goals as goal

pub returns-in-Some : goal.returns-in-Some
returns-in-Some c =
    on_ok_weaker c.cut.result
    (cut c.args.forks.now (c.get_mut.follows.lender c.cut.new.self) c.args.fork.now c.args.count (Some c.in-Some.marks.now) c.cut.new.self c.in-Some.ensures.value
    ((c.get_mut.follows.holds c.cut.new.self).3 (subst IsSome c.in-Some.ensures.value refl)) c.cut.ensures.limit)
    c.cut.ensures.blocks

pub returns : goal.returns
returns c =
    cut_new c.args.forks.now c.get_mut.follows.lender-at-none c.insert.new.self c.args.fork.now c.args.count c.new-marks.result c.cut-2.new.self c.get_mut.follows.holds-at-none c.in_default.ensures.value
    c.in_ok-insert.ensures.updates c.new-marks.ensures.limit c.new-marks.ensures.blocks c.cut-2.ensures.limit c.in_ok-cut.ensures.blocks
