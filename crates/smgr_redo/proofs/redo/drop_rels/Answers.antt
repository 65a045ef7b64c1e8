-- One relation behind the other.
use Rattle.std.proofs.Common.{refl, arith}
use Rattle.std.proofs.lemmas.List.{drop_all}
use Rattle.smgr_redo.proofs.Acts.{one_more_gone, all_gone}
use Rattle.smgr_redo.proofs.redo.drop_rels.Goals as goal

pub loop-rel-init : goal.loop-rel-init
loop-rel-init g c = record {
  turns = λ s shown. (s, (shown, refl));
  kept = g.met.P.Pages.keeps_refl c.args.target.now;
  later = omega arith;
}

pub loop-rel-preserved : goal.loop-rel-preserved
loop-rel-preserved g c = record {
  turns = one_more_gone g.P.Pages.shows c.args.target.now c.loop-rel.target c.drop_rel.new.target c.args.rels.now c.loop-rel.rel-index c.rel-item.result c.loop-rel-test.true c.rel-item.is c.loop-rel.invariant.turns c.in_ok-drop_rel.ensures.done;
  kept = g.met.P.Pages.keeps_trans c.args.target.now c.loop-rel.target c.drop_rel.new.target c.loop-rel.invariant.kept c.in_ok-drop_rel.ensures.kept;
  later = omega (arith, c.loop-rel.invariant.later, c.in_ok-drop_rel.ensures.cause.later);
}

pub returns-clause-done : goal.returns-clause-done
returns-clause-done g c =
    all_gone g.P.Pages.shows c.args.target.now c.loop-rel.target c.args.rels.now c.loop-rel.rel-index (drop_all c.loop-rel.rel-index c.args.rels.now c.loop-rel-test.false) c.loop-rel.invariant.turns
