use Rattle.std.proofs.Common.{Some, refl, subst, IsSome}
use Rattle.std.proofs.lemmas.Result.{on_ok_weaker}
use Rattle.wal_summary.proofs.Maps.{touched, touched_new}
use Rattle.wal_summary.proofs.mark_map.touch_in.Goals as goal

pub returns-in-Some : goal.returns-in-Some
returns-in-Some c =
    on_ok_weaker c.touch.result
    (touched c.args.forks.now (c.get_mut.follows.lender c.touch.new.self) c.args.at.now.fork c.args.at.now.block (Some c.in-Some.marks.now) c.touch.new.self c.in-Some.ensures.value
    ((c.get_mut.follows.holds c.touch.new.self).3 (subst IsSome c.in-Some.ensures.value refl)) c.touch.ensures.limit)
    c.touch.ensures.blocks

pub returns : goal.returns
returns c =
    touched_new c.args.forks.now c.get_mut.follows.lender-at-none c.insert.new.self c.args.at.now.fork c.args.at.now.block c.new-marks.result c.touch-2.new.self c.get_mut.follows.holds-at-none c.in_default.ensures.value
    c.in_ok-insert.ensures.updates c.new-marks.ensures.limit c.new-marks.ensures.blocks c.touch-2.ensures.limit c.in_ok-touch.ensures.blocks
