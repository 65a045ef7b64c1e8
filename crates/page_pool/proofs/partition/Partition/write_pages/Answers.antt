use Rattle.std.proofs.Common.{◌∙◌}
use Rattle.page_frames.proofs.Ends.{none_dirty}
use Rattle.page_pool.proofs.InTurn.{changes_on, written_on, same_written, page_written, is_none}
use Rattle.page_pool.specs.Stops.{MayWritePage, MayWritePages}
use Rattle.page_pool.proofs.Flushed.{page_later}
use Rattle.page_pool.proofs.Stopped.{flushed_on}
use Rattle.page_pool.proofs.partition.Partition.write_pages.Goals as goal

pub loop-at-preserved : goal.loop-at-preserved
loop-at-preserved g c =
    let a = c.args.self.now in
    let b = c.loop-at.self in
    let d = c.write_page.new.self in
    let inv = c.loop-at.invariant in
    let e = c.in_ok-write_page.ensures in
    record {
      none = e.written.works;
      frames = e.written.frames ∙ inv.frames;
      written = written_on a b d inv.written (page_written c.in-Some.at b d inv.none e.written e.area);
      moments = flushed_on (MayWritePages a) (MayWritePage b c.in-Some.at) a b d inv.written inv.area (λ m may. page_later m a b c.in-Some.at inv.written (may c.in-Some.at)) inv.moments e.moments;
      area = changes_on a b d inv.area e.area;
    }

pub returns-in_err-write_page-clause-kept : goal.returns-in_err-write_page-clause-kept
returns-in_err-write_page-clause-kept g c =
    let e = c.in_err-write_page.ensures in
    written_on c.args.self.now c.loop-at.self c.write_page.new.self c.loop-at.invariant.written (same_written c.loop-at.self c.write_page.new.self e.kept e.area)

pub returns-in_err-write_page-clause-area : goal.returns-in_err-write_page-clause-area
returns-in_err-write_page-clause-area g c = changes_on c.args.self.now c.loop-at.self c.write_page.new.self c.loop-at.invariant.area c.in_err-write_page.ensures.area

pub returns-clause-clean : goal.returns-clause-clean
returns-clause-clean g c = record { marks = none_dirty c.loop-at.self.marks (c.next_page.ensures.none (is_none c.next_page.result c.in_default.not-Some)); works = c.loop-at.invariant.none }

pub returns-in_err-write_page-clause-moments : goal.returns-in_err-write_page-clause-moments
returns-in_err-write_page-clause-moments g c =
    let a = c.args.self.now in
    let b = c.loop-at.self in
    let inv = c.loop-at.invariant in
    flushed_on (MayWritePages a) (MayWritePage b c.in-Some.at) a b c.write_page.new.self inv.written inv.area (λ m may. page_later m a b c.in-Some.at inv.written (may c.in-Some.at)) inv.moments c.in_err-write_page.ensures.moments
