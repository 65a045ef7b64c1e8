use Rattle.std.proofs.Common.{max, sym, subst}
use Rattle.page_pool.specs.Part.{Part}
use Rattle.page_pool.specs.Room.{blocks_of}
use Rattle.page_pool.specs.Stops.{MayMakeRoom}
use Rattle.page_pool.proofs.Stopped.{window_kept, mark_kept, written_behind, forks_behind, quiet_behind, bounds_behind, cause_behind}
use Rattle.page_pool.proofs.partition.Partition.make_room.Goals as goal

pub returns-clause-written : goal.returns-clause-written
returns-clause-written g c = written_behind (max c.args.self.now.flushed c.args.mark.now.to.0) c.args.self.now c.take_mark.new.self c.fill_room.new.self c.take_mark.ensures.marked c.fill_room.ensures.written

pub returns-clause-none : goal.returns-clause-none
returns-clause-none g c = quiet_behind (max c.args.self.now.flushed c.args.mark.now.to.0) c.args.self.now c.take_mark.new.self c.fill_room.new.self c.take_mark.ensures.marked (blocks_of c.args.op.now) c.fill_room.ensures.none

pub returns-clause-bounds : goal.returns-clause-bounds
returns-clause-bounds g c = bounds_behind (max c.args.self.now.flushed c.args.mark.now.to.0) c.args.self.now c.take_mark.new.self c.fill_room.new.self c.take_mark.ensures.marked c.fill_room.ensures.bounds

pub returns-clause-marked : goal.returns-clause-marked
returns-clause-marked g c = mark_kept (max c.args.self.now.flushed c.args.mark.now.to.0) (MayMakeRoom c.take_mark.new.self (blocks_of c.args.op.now)) c.args.self.now c.take_mark.new.self c.fill_room.new.self c.take_mark.ensures.marked c.fill_room.ensures.moments

pub returns-clause-moments : goal.returns-clause-moments
returns-clause-moments g c = window_kept c.args.mark.now.to.0 (max c.args.self.now.flushed c.args.mark.now.to.0) (MayMakeRoom c.take_mark.new.self (blocks_of c.args.op.now)) c.args.self.now c.take_mark.new.self c.fill_room.new.self c.take_mark.ensures.marked c.take_mark.ensures.some c.fill_room.ensures.moments (subst (λ (x : Part). MayMakeRoom x (blocks_of c.args.op.now) c.args.mark.now.to.0) (sym c.take_mark.ensures.marked) c.requires.flushed)

pub returns-clause-area : goal.returns-clause-area
returns-clause-area g c = forks_behind (max c.args.self.now.flushed c.args.mark.now.to.0) c.args.self.now c.take_mark.new.self c.fill_room.new.self c.take_mark.ensures.marked c.fill_room.ensures.area

pub returns-clause-cause : goal.returns-clause-cause
returns-clause-cause g c = cause_behind (max c.args.self.now.flushed c.args.mark.now.to.0) c.args.self.now c.take_mark.new.self c.fill_room.new.self c.take_mark.ensures.marked c.fill_room.result c.fill_room.ensures.cause
