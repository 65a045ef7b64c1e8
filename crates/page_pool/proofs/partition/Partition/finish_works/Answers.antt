use Rattle.std.proofs.Common.{◌∙◌}
use Rattle.page_pool.proofs.InTurn.{changes_on, written_on, same_written, one_written, work_marks}
use Rattle.page_pool.specs.Calls.{MayWriteNext}
use Rattle.page_pool.specs.Stops.{MayDoWorks}
use Rattle.page_pool.proofs.Flushed.{works_later, first_work_flushed}
use Rattle.page_pool.proofs.Stopped.{flushed_on}
use Rattle.page_pool.proofs.partition.Partition.finish_works.Goals as goal

pub loop-work-preserved : goal.loop-work-preserved
loop-work-preserved g c =
    let a = c.args.self.now in
    let b = c.loop-work.self in
    let d = c.do_work.new.self in
    let inv = c.loop-work.invariant in
    let e = c.in_ok-do_work.ensures in
    record {
      alike = e.alike ∙ inv.alike;
      marks = work_marks c.in-Some.work b d c.in_ok-do_work.field-0 e.written c.in-Some.ensures.first ∙ inv.marks;
      frames = e.written.frames ∙ inv.frames;
      written = written_on a b d inv.written (one_written c.in_ok-do_work.field-0 b d e.written e.area);
      moments = flushed_on (MayDoWorks a) (MayWriteNext b) a b d inv.written inv.area (λ m may. first_work_flushed m b c.in-Some.work c.in-Some.ensures.first (works_later m a b inv.written may)) inv.moments e.moments;
      area = changes_on a b d inv.area e.area;
    }

pub returns-in_err-do_work-clause-alike : goal.returns-in_err-do_work-clause-alike
returns-in_err-do_work-clause-alike g c = c.in_err-do_work.ensures.alike ∙ c.loop-work.invariant.alike

pub returns-in_err-do_work-clause-marks : goal.returns-in_err-do_work-clause-marks
returns-in_err-do_work-clause-marks g c = c.in_err-do_work.ensures.kept.marks ∙ c.loop-work.invariant.marks

pub returns-in_err-do_work-clause-frames : goal.returns-in_err-do_work-clause-frames
returns-in_err-do_work-clause-frames g c = c.in_err-do_work.ensures.kept.frames ∙ c.loop-work.invariant.frames

pub returns-in_err-do_work-clause-kept : goal.returns-in_err-do_work-clause-kept
returns-in_err-do_work-clause-kept g c =
    let e = c.in_err-do_work.ensures in
    written_on c.args.self.now c.loop-work.self c.do_work.new.self c.loop-work.invariant.written (same_written c.loop-work.self c.do_work.new.self e.kept e.area)

pub returns-in_err-do_work-clause-area : goal.returns-in_err-do_work-clause-area
returns-in_err-do_work-clause-area g c = changes_on c.args.self.now c.loop-work.self c.do_work.new.self c.loop-work.invariant.area c.in_err-do_work.ensures.area

pub returns-in_err-do_work-clause-moments : goal.returns-in_err-do_work-clause-moments
returns-in_err-do_work-clause-moments g c =
    let a = c.args.self.now in
    let b = c.loop-work.self in
    let inv = c.loop-work.invariant in
    flushed_on (MayDoWorks a) (MayWriteNext b) a b c.do_work.new.self inv.written inv.area (λ m may. first_work_flushed m b c.in-Some.work c.in-Some.ensures.first (works_later m a b inv.written may)) inv.moments c.in_err-do_work.ensures.moments
