use Rattle.std.proofs.Common.{take, subst}
use Rattle.std.specs.List.{All}
use Rattle.std.proofs.lemmas.List.{take_all}
use Rattle.std.proofs.lemmas.List.Elements.{All-more, All-weaker}
use Rattle.page_frames.specs.Framed.{ForkLengths}
use Rattle.page_frames.specs.Overlay.{IsBlockOf}
use Rattle.page_pool.specs.Room.{HasFrame}
use Rattle.page_pool.proofs.InTurn.{written_on, quiet_on, bounds_on, reads_on}
use Rattle.page_pool.proofs.partition.Partition.hold_all.Goals as goal

pub loop-at-preserved : goal.loop-at-preserved
loop-at-preserved g c =
    let a = c.args.self.now in
    let b = c.loop-at.self in
    let d = c.hold.new.self in
    let inv = c.loop-at.invariant in
    let e = c.in_ok-hold.ensures in
    record {
      held = All-more (HasFrame d.framed) c.args.blocks.now c.loop-at.at-index c.at-item.result c.loop-at-test.true
          (All-weaker (HasFrame b.framed) (HasFrame d.framed) (λ at has there. e.more at (has (subst (λ (ls : ForkLengths). IsBlockOf ls at) e.bounds.lengths there))) (take c.loop-at.at-index c.args.blocks.now) inv.held)
          (subst (HasFrame d.framed) c.at-item.is e.held);
      written = written_on a b d inv.written e.written;
      quiet = quiet_on a b d inv.quiet e.quiet;
      bounds = bounds_on a b d inv.bounds e.bounds;
      area = reads_on a b d inv.area e.area;
    }

pub returns-in_err-hold-clause-written : goal.returns-in_err-hold-clause-written
returns-in_err-hold-clause-written g c = written_on c.args.self.now c.loop-at.self c.hold.new.self c.loop-at.invariant.written c.in_err-hold.ensures.written

pub returns-clause-held : goal.returns-clause-held
returns-clause-held g c = subst (All (HasFrame c.loop-at.self.framed)) (take_all c.loop-at.at-index c.args.blocks.now c.loop-at-test.false) c.loop-at.invariant.held
