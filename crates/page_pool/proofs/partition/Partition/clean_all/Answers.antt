use Rattle.std.proofs.Common.{max, sym, subst}
use Rattle.page_pool.specs.Part.{Part}
use Rattle.page_pool.specs.Calls.{MayWriteAll}
use Rattle.page_pool.proofs.InTurn.{on_err}
use Rattle.page_pool.proofs.Stopped.{window_kept, mark_kept, written_behind, forks_behind, all_behind}
use Rattle.page_pool.proofs.partition.Partition.clean_all.Goals as goal

pub returns-in_err-write_all-clause-kept : goal.returns-in_err-write_all-clause-kept
returns-in_err-write_all-clause-kept g c = on_err c.from_residual.result _ (written_behind (max c.args.self.now.flushed c.args.mark.now.to.0) c.args.self.now c.take_mark.new.self c.write_all.new.self c.take_mark.ensures.marked c.in_err-write_all.ensures.kept)

pub returns-in_err-write_all-clause-marked : goal.returns-in_err-write_all-clause-marked
returns-in_err-write_all-clause-marked g c = mark_kept (max c.args.self.now.flushed c.args.mark.now.to.0) (MayWriteAll c.take_mark.new.self) c.args.self.now c.take_mark.new.self c.write_all.new.self c.take_mark.ensures.marked c.write_all.ensures.moments

pub returns-in_err-write_all-clause-moments : goal.returns-in_err-write_all-clause-moments
returns-in_err-write_all-clause-moments g c = window_kept c.args.mark.now.to.0 (max c.args.self.now.flushed c.args.mark.now.to.0) (MayWriteAll c.take_mark.new.self) c.args.self.now c.take_mark.new.self c.write_all.new.self c.take_mark.ensures.marked c.take_mark.ensures.some c.write_all.ensures.moments (subst (λ (x : Part). MayWriteAll x c.args.mark.now.to.0) (sym c.take_mark.ensures.marked) c.requires)

pub returns-in_err-write_all-clause-area : goal.returns-in_err-write_all-clause-area
returns-in_err-write_all-clause-area g c = forks_behind (max c.args.self.now.flushed c.args.mark.now.to.0) c.args.self.now c.take_mark.new.self c.write_all.new.self c.take_mark.ensures.marked c.write_all.ensures.area

pub returns-clause-written : goal.returns-clause-written
returns-clause-written g c = all_behind (max c.args.self.now.flushed c.args.mark.now.to.0) c.args.self.now c.take_mark.new.self c.write_all.new.self c.take_mark.ensures.marked c.args.redo.0 c.in_ok-write_all.ensures.written

pub returns-clause-marked : goal.returns-clause-marked
returns-clause-marked g c = mark_kept (max c.args.self.now.flushed c.args.mark.now.to.0) (MayWriteAll c.take_mark.new.self) c.args.self.now c.take_mark.new.self c.write_all.new.self c.take_mark.ensures.marked c.write_all.ensures.moments

pub returns-clause-moments : goal.returns-clause-moments
returns-clause-moments g c = window_kept c.args.mark.now.to.0 (max c.args.self.now.flushed c.args.mark.now.to.0) (MayWriteAll c.take_mark.new.self) c.args.self.now c.take_mark.new.self c.write_all.new.self c.take_mark.ensures.marked c.take_mark.ensures.some c.write_all.ensures.moments (subst (λ (x : Part). MayWriteAll x c.args.mark.now.to.0) (sym c.take_mark.ensures.marked) c.requires)

pub returns-clause-area : goal.returns-clause-area
returns-clause-area g c = forks_behind (max c.args.self.now.flushed c.args.mark.now.to.0) c.args.self.now c.take_mark.new.self c.write_all.new.self c.take_mark.ensures.marked c.write_all.ensures.area
