use Rattle.page_pool.proofs.InTurn.{written_on, changes_on, read_changes, same_reads}
use Rattle.page_pool.specs.Stops.{MayClear, MayAlways}
use Rattle.page_pool.proofs.Stopped.{flushed_on, flushed_same}
use Rattle.page_pool.proofs.partition.Partition.clear.Goals as goal

pub returns-clause-written : goal.returns-clause-written
returns-clause-written g c = written_on c.args.self.now c.write_out.new.self c.give_up-2.new.self c.write_out.ensures.written c.give_up-2.ensures.written

pub returns-clause-area : goal.returns-clause-area
returns-clause-area g c = changes_on c.args.self.now c.write_out.new.self c.give_up-2.new.self c.write_out.ensures.area (read_changes c.write_out.new.self c.give_up-2.new.self (same_reads c.write_out.new.self c.give_up-2.new.self c.give_up-2.ensures.area))

pub returns-then-not-is_dirty-clause-moments : goal.returns-then-not-is_dirty-clause-moments
returns-then-not-is_dirty-clause-moments g c = flushed_same (MayClear c.args.self.now c.args.at.now) c.args.self.now c.give_up.new.self c.give_up.ensures.area

pub returns-clause-moments : goal.returns-clause-moments
returns-clause-moments g c =
    let a = c.args.self.now in
    let b = c.write_out.new.self in
    let e = c.write_out.ensures in
    flushed_on (MayClear a c.args.at.now) MayAlways a b c.give_up-2.new.self e.written e.area (λ m may. tt) e.moments (flushed_same MayAlways b c.give_up-2.new.self c.give_up-2.ensures.area)
