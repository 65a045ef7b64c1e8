use Rattle.std.proofs.Common.{arith, ◌∙◌}
use Rattle.page_pool.proofs.InTurn.{written_on, quiet_on, changes_on, read_changes, same_reads}
use Rattle.page_pool.proofs.Rooms.{none_dirty_victims}
use Rattle.page_pool.specs.Stops.{MayMakeRoom, MayClearAll}
use Rattle.page_pool.proofs.Flushed.{room_flushed}
use Rattle.page_pool.proofs.Stopped.{flushed_on, flushed_same}
use Rattle.page_pool.proofs.partition.Partition.free_frames.Goals as goal

pub returns-in_err-clear_all-clause-written : goal.returns-in_err-clear_all-clause-written
returns-in_err-clear_all-clause-written g c = written_on c.args.self.now c.sweep-victims.new.self c.clear_all.new.self c.sweep-victims.ensures.written c.in_err-clear_all.ensures.written

pub returns-in_err-clear_all-clause-none : goal.returns-in_err-clear_all-clause-none
returns-in_err-clear_all-clause-none g c = λ none. quiet_on c.args.self.now c.sweep-victims.new.self c.clear_all.new.self c.sweep-victims.ensures.quiet (c.in_err-clear_all.ensures.quiet (none_dirty_victims c.args.self.now.framed c.args.self.now.works c.args.blocks.now c.as_slice.result.now c.sweep-victims.new.self (c.as_slice.ensures ∙ c.sweep-victims.ensures.victims) c.sweep-victims.ensures.marks none))

pub returns-in_err-clear_all-clause-area : goal.returns-in_err-clear_all-clause-area
returns-in_err-clear_all-clause-area g c = changes_on c.args.self.now c.sweep-victims.new.self c.clear_all.new.self (read_changes c.args.self.now c.sweep-victims.new.self (same_reads c.args.self.now c.sweep-victims.new.self c.sweep-victims.ensures.area)) c.in_err-clear_all.ensures.area

pub returns-clause-written : goal.returns-clause-written
returns-clause-written g c = written_on c.args.self.now c.sweep-victims.new.self c.clear_all.new.self c.sweep-victims.ensures.written c.in_ok-clear_all.ensures.written

pub returns-clause-none : goal.returns-clause-none
returns-clause-none g c = λ none. quiet_on c.args.self.now c.sweep-victims.new.self c.clear_all.new.self c.sweep-victims.ensures.quiet (c.in_ok-clear_all.ensures.quiet (none_dirty_victims c.args.self.now.framed c.args.self.now.works c.args.blocks.now c.as_slice.result.now c.sweep-victims.new.self (c.as_slice.ensures ∙ c.sweep-victims.ensures.victims) c.sweep-victims.ensures.marks none))

pub returns-clause-area : goal.returns-clause-area
returns-clause-area g c = changes_on c.args.self.now c.sweep-victims.new.self c.clear_all.new.self (read_changes c.args.self.now c.sweep-victims.new.self (same_reads c.args.self.now c.sweep-victims.new.self c.sweep-victims.ensures.area)) c.in_ok-clear_all.ensures.area

pub returns-clause-cause : goal.returns-clause-cause
returns-clause-cause g c = record { later = (let same = c.sweep-victims.ensures.area.faults in let l = c.in_ok-clear_all.ensures.area.faults in omega (arith, same, l)); failed = λ e. absurd cc }

pub returns-in_err-clear_all-clause-moments : goal.returns-in_err-clear_all-clause-moments
returns-in_err-clear_all-clause-moments g c =
    let a = c.args.self.now in
    let b = c.sweep-victims.new.self in
    let e = c.sweep-victims.ensures in
    flushed_on (MayMakeRoom a c.args.blocks.now) (MayClearAll b c.as_slice.result.now) a b c.clear_all.new.self e.written (read_changes a b (same_reads a b e.area))
    (λ m may. room_flushed m a b c.args.blocks.now c.as_slice.result.now (c.as_slice.ensures ∙ e.victims) e.marks e.written may)
    (flushed_same (MayMakeRoom a c.args.blocks.now) a b e.area) c.clear_all.ensures.moments

pub returns-clause-moments : goal.returns-clause-moments
returns-clause-moments g c =
    let a = c.args.self.now in
    let b = c.sweep-victims.new.self in
    let e = c.sweep-victims.ensures in
    flushed_on (MayMakeRoom a c.args.blocks.now) (MayClearAll b c.as_slice.result.now) a b c.clear_all.new.self e.written (read_changes a b (same_reads a b e.area))
    (λ m may. room_flushed m a b c.args.blocks.now c.as_slice.result.now (c.as_slice.ensures ∙ e.victims) e.marks e.written may)
    (flushed_same (MayMakeRoom a c.args.blocks.now) a b e.area) c.clear_all.ensures.moments
