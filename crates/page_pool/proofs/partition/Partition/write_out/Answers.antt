use Rattle.page_pool.proofs.InTurn.{changes_on, written_on, same_written, page_written, cleaned_here}
use Rattle.page_pool.specs.Stops.{MayClear, MayDoWorks, MayWritePage}
use Rattle.page_pool.proofs.Flushed.{page_later, dirty_works}
use Rattle.page_pool.proofs.Stopped.{flushed_on, flushed_for}
use Rattle.page_pool.proofs.partition.Partition.write_out.Goals as goal

pub returns-in_err-write_page-clause-written : goal.returns-in_err-write_page-clause-written
returns-in_err-write_page-clause-written g c =
    let e = c.in_err-write_page.ensures in
    written_on c.args.self.now c.finish_works.new.self c.write_page.new.self c.finish_works.ensures.kept (same_written c.finish_works.new.self c.write_page.new.self e.kept e.area)

pub returns-in_err-write_page-clause-area : goal.returns-in_err-write_page-clause-area
returns-in_err-write_page-clause-area g c = changes_on c.args.self.now c.finish_works.new.self c.write_page.new.self c.finish_works.ensures.area c.in_err-write_page.ensures.area

pub returns-clause-clean : goal.returns-clause-clean
returns-clause-clean g c = cleaned_here c.args.at.now c.finish_works.new.self c.write_page.new.self c.in_ok-write_page.ensures.written

pub returns-clause-written : goal.returns-clause-written
returns-clause-written g c =
    let e = c.in_ok-write_page.ensures in
    written_on c.args.self.now c.finish_works.new.self c.write_page.new.self c.finish_works.ensures.kept
    (page_written c.args.at.now c.finish_works.new.self c.write_page.new.self c.in_ok-finish_works.ensures.none e.written e.area)

pub returns-clause-area : goal.returns-clause-area
returns-clause-area g c = changes_on c.args.self.now c.finish_works.new.self c.write_page.new.self c.finish_works.ensures.area c.in_ok-write_page.ensures.area

pub returns-in_err-finish_works-clause-moments : goal.returns-in_err-finish_works-clause-moments
returns-in_err-finish_works-clause-moments g c =
    let a = c.args.self.now in
    flushed_for (MayClear a c.args.at.now) (MayDoWorks a) a c.finish_works.new.self (λ m may. dirty_works m a c.args.at.now c.requires may) c.finish_works.ensures.moments

pub returns-in_err-write_page-clause-moments : goal.returns-in_err-write_page-clause-moments
returns-in_err-write_page-clause-moments g c =
    let a = c.args.self.now in
    let b = c.finish_works.new.self in
    let e = c.finish_works.ensures in
    flushed_on (MayClear a c.args.at.now) (MayWritePage b c.args.at.now) a b c.write_page.new.self e.kept e.area (λ m may. page_later m a b c.args.at.now e.kept (λ end is. (may end is).0))
    (flushed_for (MayClear a c.args.at.now) (MayDoWorks a) a b (λ m may. dirty_works m a c.args.at.now c.requires may) e.moments) c.write_page.ensures.moments

pub returns-clause-moments : goal.returns-clause-moments
returns-clause-moments g c =
    let a = c.args.self.now in
    let b = c.finish_works.new.self in
    let e = c.finish_works.ensures in
    flushed_on (MayClear a c.args.at.now) (MayWritePage b c.args.at.now) a b c.write_page.new.self e.kept e.area (λ m may. page_later m a b c.args.at.now e.kept (λ end is. (may end is).0))
    (flushed_for (MayClear a c.args.at.now) (MayDoWorks a) a b (λ m may. dirty_works m a c.args.at.now c.requires may) e.moments) c.write_page.ensures.moments
