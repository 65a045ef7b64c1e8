use Rattle.std.proofs.Common.{max, sym, subst}
use Rattle.page_pool.specs.Part.{Part}
use Rattle.page_pool.specs.Calls.{MayWriteNext}
use Rattle.page_pool.proofs.InTurn.{on_err}
use Rattle.page_pool.proofs.Stopped.{window_kept, mark_kept, same_behind, forks_behind, one_behind}
use Rattle.page_pool.proofs.partition.Partition.write_one.Goals as goal

pub returns-in_err-wrote-clause-kept : goal.returns-in_err-wrote-clause-kept
returns-in_err-wrote-clause-kept g c = on_err c.from_residual.result _ (same_behind (max c.args.self.now.flushed c.args.mark.now.to.0) c.args.self.now c.take_mark.new.self c.write_next.new.self c.take_mark.ensures.marked c.in_err-wrote.ensures.kept)

pub returns-in_err-wrote-clause-marked : goal.returns-in_err-wrote-clause-marked
returns-in_err-wrote-clause-marked g c = mark_kept (max c.args.self.now.flushed c.args.mark.now.to.0) (MayWriteNext c.take_mark.new.self) c.args.self.now c.take_mark.new.self c.write_next.new.self c.take_mark.ensures.marked c.write_next.ensures.moments

pub returns-in_err-wrote-clause-moments : goal.returns-in_err-wrote-clause-moments
returns-in_err-wrote-clause-moments g c = window_kept c.args.mark.now.to.0 (max c.args.self.now.flushed c.args.mark.now.to.0) (MayWriteNext c.take_mark.new.self) c.args.self.now c.take_mark.new.self c.write_next.new.self c.take_mark.ensures.marked c.take_mark.ensures.some c.write_next.ensures.moments (subst (λ (x : Part). MayWriteNext x c.args.mark.now.to.0) (sym c.take_mark.ensures.marked) c.requires)

pub returns-in_err-wrote-clause-area : goal.returns-in_err-wrote-clause-area
returns-in_err-wrote-clause-area g c = forks_behind (max c.args.self.now.flushed c.args.mark.now.to.0) c.args.self.now c.take_mark.new.self c.write_next.new.self c.take_mark.ensures.marked c.write_next.ensures.area

pub returns-clause-written : goal.returns-clause-written
returns-clause-written g c = one_behind (max c.args.self.now.flushed c.args.mark.now.to.0) c.args.self.now c.take_mark.new.self c.write_next.new.self c.take_mark.ensures.marked _ c.in_ok-wrote.ensures.written

pub returns-clause-marked : goal.returns-clause-marked
returns-clause-marked g c = mark_kept (max c.args.self.now.flushed c.args.mark.now.to.0) (MayWriteNext c.take_mark.new.self) c.args.self.now c.take_mark.new.self c.write_next.new.self c.take_mark.ensures.marked c.write_next.ensures.moments

pub returns-clause-moments : goal.returns-clause-moments
returns-clause-moments g c = window_kept c.args.mark.now.to.0 (max c.args.self.now.flushed c.args.mark.now.to.0) (MayWriteNext c.take_mark.new.self) c.args.self.now c.take_mark.new.self c.write_next.new.self c.take_mark.ensures.marked c.take_mark.ensures.some c.write_next.ensures.moments (subst (λ (x : Part). MayWriteNext x c.args.mark.now.to.0) (sym c.take_mark.ensures.marked) c.requires)

pub returns-clause-area : goal.returns-clause-area
returns-clause-area g c = forks_behind (max c.args.self.now.flushed c.args.mark.now.to.0) c.args.self.now c.take_mark.new.self c.write_next.new.self c.take_mark.ensures.marked c.write_next.ensures.area
