use Rattle.std.proofs.Common.{◌∙◌}
use Rattle.page_pool.specs.Steps.{HasWritten}
use Rattle.page_pool.proofs.InTurn.{changes_on, written_on, same_written, all_written_on, on_err}
use Rattle.page_pool.specs.Calls.{MayWriteAll}
use Rattle.page_pool.specs.Stops.{MayDoWorks, MayWritePages, MayAlways}
use Rattle.page_pool.proofs.Flushed.{all_flushed, page_later}
use Rattle.page_pool.proofs.Stopped.{flushed_on, flushed_for}
use Rattle.page_pool.proofs.partition.Partition.write_all.Goals as goal

pub returns-in_err-write_pages-clause-kept : goal.returns-in_err-write_pages-clause-kept
returns-in_err-write_pages-clause-kept g c =
    on_err c.from_residual-in_err-write_pages.result (HasWritten c.args.self.now c.write_pages.new.self) (written_on c.args.self.now c.finish_works.new.self c.write_pages.new.self c.finish_works.ensures.kept c.write_pages.ensures.kept)

pub returns-in_err-write_pages-clause-area : goal.returns-in_err-write_pages-clause-area
returns-in_err-write_pages-clause-area g c = changes_on c.args.self.now c.finish_works.new.self c.write_pages.new.self c.finish_works.ensures.area c.write_pages.ensures.area

pub returns-in_err-settle-clause-kept : goal.returns-in_err-settle-clause-kept
returns-in_err-settle-clause-kept g c =
    let before = written_on c.args.self.now c.finish_works.new.self c.write_pages.new.self c.finish_works.ensures.kept c.write_pages.ensures.kept in
    on_err c.from_residual-in_err-settle.result (HasWritten c.args.self.now c.settle.new.self)
    (written_on c.args.self.now c.write_pages.new.self c.settle.new.self before (same_written c.write_pages.new.self c.settle.new.self c.in_err-settle.ensures.kept c.settle.ensures.area))

pub returns-in_err-settle-clause-area : goal.returns-in_err-settle-clause-area
returns-in_err-settle-clause-area g c =
    changes_on c.args.self.now c.write_pages.new.self c.settle.new.self
    (changes_on c.args.self.now c.finish_works.new.self c.write_pages.new.self c.finish_works.ensures.area c.write_pages.ensures.area) c.settle.ensures.area

pub returns-clause-area : goal.returns-clause-area
returns-clause-area g c =
    changes_on c.args.self.now c.write_pages.new.self c.settle.new.self
    (changes_on c.args.self.now c.finish_works.new.self c.write_pages.new.self c.finish_works.ensures.area c.write_pages.ensures.area) c.settle.ensures.area

pub returns-clause-written : goal.returns-clause-written
returns-clause-written g c =
    all_written_on c.args.redo.0 c.args.self.now c.write_pages.new.self c.settle.new.self (c.write_pages.ensures.frames ∙ c.finish_works.ensures.frames)
    (written_on c.args.self.now c.finish_works.new.self c.write_pages.new.self c.finish_works.ensures.kept c.write_pages.ensures.kept) c.in_ok-settle.ensures.settled

pub returns-in_err-finish_works-clause-moments : goal.returns-in_err-finish_works-clause-moments
returns-in_err-finish_works-clause-moments g c =
    let a = c.args.self.now in
    flushed_for (MayWriteAll a) (MayDoWorks a) a c.finish_works.new.self (λ m h. (all_flushed m a h).0) c.finish_works.ensures.moments

pub returns-in_err-write_pages-clause-moments : goal.returns-in_err-write_pages-clause-moments
returns-in_err-write_pages-clause-moments g c =
    let a = c.args.self.now in
    let b = c.finish_works.new.self in
    let d = c.write_pages.new.self in
    let e = c.finish_works.ensures in
    let may = MayWriteAll a in
    let works = flushed_for may (MayDoWorks a) a b (λ m h. (all_flushed m a h).0) e.moments in
    let pages = flushed_on may (MayWritePages b) a b d e.kept e.area (λ m h at. page_later m a b at e.kept ((all_flushed m a h).1 at)) works c.write_pages.ensures.moments in
    pages

pub returns-in_err-settle-clause-moments : goal.returns-in_err-settle-clause-moments
returns-in_err-settle-clause-moments g c =
    let a = c.args.self.now in
    let b = c.finish_works.new.self in
    let d = c.write_pages.new.self in
    let e = c.finish_works.ensures in
    let may = MayWriteAll a in
    let works = flushed_for may (MayDoWorks a) a b (λ m h. (all_flushed m a h).0) e.moments in
    let pages = flushed_on may (MayWritePages b) a b d e.kept e.area (λ m h at. page_later m a b at e.kept ((all_flushed m a h).1 at)) works c.write_pages.ensures.moments in
    let written = written_on a b d e.kept c.write_pages.ensures.kept in
    let area = changes_on a b d e.area c.write_pages.ensures.area in
    flushed_on may MayAlways a d c.settle.new.self written area (λ m h. tt) pages c.settle.ensures.moments

pub returns-clause-moments : goal.returns-clause-moments
returns-clause-moments g c =
    let a = c.args.self.now in
    let b = c.finish_works.new.self in
    let d = c.write_pages.new.self in
    let e = c.finish_works.ensures in
    let may = MayWriteAll a in
    let works = flushed_for may (MayDoWorks a) a b (λ m h. (all_flushed m a h).0) e.moments in
    let pages = flushed_on may (MayWritePages b) a b d e.kept e.area (λ m h at. page_later m a b at e.kept ((all_flushed m a h).1 at)) works c.write_pages.ensures.moments in
    let written = written_on a b d e.kept c.write_pages.ensures.kept in
    let area = changes_on a b d e.area c.write_pages.ensures.area in
    flushed_on may MayAlways a d c.settle.new.self written area (λ m h. tt) pages c.settle.ensures.moments
