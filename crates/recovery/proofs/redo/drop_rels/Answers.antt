-- One relation behind the other, with both forks of it.
use Rattle.std.proofs.Common.{arith}
use Rattle.recovery.proofs.Redoing.{nothing_redone, one_more_rel, all_rels}
use Rattle.recovery.proofs.redo.drop_rels.Goals as goal

pub loop-rel-init : goal.loop-rel-init
loop-rel-init g c = record {
  redone = nothing_redone g.P.Pages.shows c.args.target.now c.args.tally.now;
  kept = g.met.P.Pages.keeps_refl c.args.target.now;
  later = omega arith;
}

pub loop-rel-preserved : goal.loop-rel-preserved
loop-rel-preserved g c = record {
  redone = one_more_rel g.P.Pages.shows c.args.target.now c.loop-rel.target c.drop_fork.new.target c.drop_fork-in-loop-rel.new.target c.args.tally.now c.loop-rel.tally c.drop_fork.new.tally c.drop_fork-in-loop-rel.new.tally c.args.rels.now c.loop-rel.rel-index
      c.rel-item.result c.main_fork.result c.init_fork.result c.loop-rel-test.true c.rel-item.is c.main_fork.ensures c.init_fork.ensures c.loop-rel.invariant.redone c.in_ok-drop_fork.ensures.done c.in_ok-drop_fork-2.ensures.done;
  kept = g.met.P.Pages.keeps_trans c.args.target.now c.loop-rel.target c.drop_fork-in-loop-rel.new.target c.loop-rel.invariant.kept
      (g.met.P.Pages.keeps_trans c.loop-rel.target c.drop_fork.new.target c.drop_fork-in-loop-rel.new.target c.in_ok-drop_fork.ensures.kept c.in_ok-drop_fork-2.ensures.kept);
  later = omega (arith, c.loop-rel.invariant.later, c.in_ok-drop_fork.ensures.cause.later, c.in_ok-drop_fork-2.ensures.cause.later);
}

pub returns-clause-done : goal.returns-clause-done
returns-clause-done g c = all_rels g.P.Pages.shows c.args.target.now c.loop-rel.target c.args.tally.now c.loop-rel.tally c.args.rels.now c.loop-rel.rel-index c.loop-rel-test.false c.loop-rel.invariant.redone
