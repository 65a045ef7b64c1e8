use Rattle.std.proofs.Common.{◌≡◌, false, sym, subst, ap, ◌∙◌}
use Rattle.lsn_core.specs.declared.ids.BlockId.{BlockId}
use Rattle.page_frames.specs.Marks.{DirtyMarks, is_dirty}
use Rattle.page_pool.proofs.InTurn.{changes_on, written_on, quiet_on, bounds_on}
use Rattle.page_pool.specs.Stops.{MayClear, MayClearAll}
use Rattle.page_pool.proofs.Flushed.{clear_later}
use Rattle.page_pool.proofs.Stopped.{flushed_on}
use Rattle.page_pool.proofs.partition.Partition.clear_all.Goals as goal

pub loop-at-preserved : goal.loop-at-preserved
loop-at-preserved g c =
    let a = c.args.self.now in
    let b = c.loop-at.self in
    let d = c.clear.new.self in
    let inv = c.loop-at.invariant in
    let e = c.in_ok-clear.ensures in
    record {
      written = written_on a b d inv.written e.written;
      quiet = λ clean.
          let before = inv.quiet clean in
          quiet_on a b d before (e.quiet (ap (λ (ms : DirtyMarks). is_dirty ms c.at-item.result.fork c.at-item.result.block) before.marks
          ∙ subst (λ (at : BlockId). is_dirty a.marks at.fork at.block ≡ false) (sym c.at-item.is) (clean c.loop-at.at-index c.at-item.result c.loop-at-test.true)));
      bounds = bounds_on a b d inv.bounds e.bounds;
      moments = flushed_on (MayClearAll a c.args.victims.now) (MayClear b c.at-item.result) a b d inv.written inv.area
          (λ m may. clear_later m a b c.at-item.result inv.written (subst (λ (at : BlockId). MayClear a at m) (sym c.at-item.is) (may c.loop-at.at-index c.at-item.result c.loop-at-test.true))) inv.moments e.moments;
      area = changes_on a b d inv.area e.area;
    }

pub returns-in_err-clear-clause-written : goal.returns-in_err-clear-clause-written
returns-in_err-clear-clause-written g c = written_on c.args.self.now c.loop-at.self c.clear.new.self c.loop-at.invariant.written c.in_err-clear.ensures.written

pub returns-in_err-clear-clause-quiet : goal.returns-in_err-clear-clause-quiet
returns-in_err-clear-clause-quiet g c = λ clean.
    let before = c.loop-at.invariant.quiet clean in
    quiet_on c.args.self.now c.loop-at.self c.clear.new.self before (c.in_err-clear.ensures.quiet (ap (λ (ms : DirtyMarks). is_dirty ms c.at-item.result.fork c.at-item.result.block) before.marks
    ∙ subst (λ (at : BlockId). is_dirty c.args.self.now.marks at.fork at.block ≡ false) (sym c.at-item.is) (clean c.loop-at.at-index c.at-item.result c.loop-at-test.true)))

pub returns-in_err-clear-clause-area : goal.returns-in_err-clear-clause-area
returns-in_err-clear-clause-area g c = changes_on c.args.self.now c.loop-at.self c.clear.new.self c.loop-at.invariant.area c.in_err-clear.ensures.area

pub returns-in_err-clear-clause-moments : goal.returns-in_err-clear-clause-moments
returns-in_err-clear-clause-moments g c =
    let a = c.args.self.now in
    let b = c.loop-at.self in
    let d = c.clear.new.self in
    let inv = c.loop-at.invariant in
    flushed_on (MayClearAll a c.args.victims.now) (MayClear b c.at-item.result) a b d inv.written inv.area
    (λ m may. clear_later m a b c.at-item.result inv.written (subst (λ (at : BlockId). MayClear a at m) (sym c.at-item.is) (may c.loop-at.at-index c.at-item.result c.loop-at-test.true))) inv.moments c.in_err-clear.ensures.moments

pub returns-clause-cause : goal.returns-clause-cause
returns-clause-cause g c = record { later = c.loop-at.invariant.area.faults; failed = λ e. absurd cc }
