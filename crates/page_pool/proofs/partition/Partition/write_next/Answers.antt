-- A work, or the first dirty page where no work is pending.
use Rattle.std.proofs.Common.{refl}
use Rattle.page_pool.specs.Calls.{MayWriteNext}
use Rattle.page_pool.specs.Stops.{MayWritePage}
use Rattle.page_pool.proofs.Flushed.{first_page_flushed}
use Rattle.page_pool.proofs.Stopped.{flushed_same, flushed_for}
use Rattle.page_pool.proofs.partition.Partition.write_next.Goals as goal

pub returns-in_default-next_page-clause-moments : goal.returns-in_default-next_page-clause-moments
returns-in_default-next_page-clause-moments g c = flushed_same (MayWriteNext c.args.self.now) c.args.self.now c.trim.new.self c.trim.ensures.area

pub returns-in_err-write_page-clause-moments : goal.returns-in_err-write_page-clause-moments
returns-in_err-write_page-clause-moments g c =
    let a = c.args.self.now in
    flushed_for (MayWriteNext a) (MayWritePage a c.in-Some-next_page.at) a c.write_page.new.self
    (λ m may. first_page_flushed m a c.in-Some-next_page.at (c.in_default.ensures.none refl) c.in-Some-next_page.ensures.first may) c.write_page.ensures.moments

pub returns-clause-moments : goal.returns-clause-moments
returns-clause-moments g c =
    let a = c.args.self.now in
    flushed_for (MayWriteNext a) (MayWritePage a c.in-Some-next_page.at) a c.write_page.new.self
    (λ m may. first_page_flushed m a c.in-Some-next_page.at (c.in_default.ensures.none refl) c.in-Some-next_page.ensures.first may) c.write_page.ensures.moments
