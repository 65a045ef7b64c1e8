use Rattle.std.proofs.Common.{refl, arith}
use Rattle.history.specs.Entry.{RedoMark, Online}
use Rattle.shared_store.specs.Shared.{own_of}
use Rattle.store_locks.proofs.Marked.{mark_late}
use Rattle.shared_store.proofs.Checkpoints.{checkpoint_in}
use Rattle.shared_store.proofs.MarkFaults.{not_started, end_full, flushed_marks}
use Rattle.shared_store.proofs.store.Store.checkpoint.Goals as goal

pub clean_all-requires-after_bounds : goal.clean_all-requires-after_bounds
clean_all-requires-after_bounds g c κs within =
    mark_late c.args.pass.now.worker (RedoMark 1) c.in-Ok.ensures.marks.before c.start.new.pass.list c.in-Ok.start c.in-Ok.ensures.marks.mark

pub returns-in-Ok-finish-clause-done : goal.returns-in-Ok-finish-clause-done
returns-in-Ok-finish-clause-done g c =
    checkpoint_in (own_of c.args.pass.now) (own_of c.start.new.pass) (own_of c.clean_all.new.pass) (own_of c.finish.new.pass) c.in-Ok.start c.in-Ok-finish.end _ c.in-Ok-finish.flushed
    c.in-Ok.ensures.marks c.in-Ok-clean_all.ensures.was c.in-Ok-finish.ensures.marks.0 c.in-Ok-finish.ensures.marks.1 refl refl

pub returns-in-Err-clause-left : goal.returns-in-Err-clause-left
returns-in-Err-clause-left g c = not_started c.args.pass.now.worker g.J.OfCrew.settings.segment c.args.pass.now c.start.new.pass c.in-Err.fault c.in-Err.ensures.marks

pub returns-in-Err-finish-clause-full : goal.returns-in-Err-finish-clause-full
returns-in-Err-finish-clause-full g c =
    end_full g.J.OfCrew.settings.segment (own_of c.args.pass.now) (own_of c.start.new.pass) (own_of c.clean_all.new.pass) (own_of c.finish.new.pass) c.in-Ok.start c.in-Err-finish.fault
    c.in-Ok.ensures.marks c.in-Ok-clean_all.ensures.was c.in-Err-finish.ensures.was c.in-Err-finish.ensures.marks

pub returns-in-Err-finish-clause-marks : goal.returns-in-Err-finish-clause-marks
returns-in-Err-finish-clause-marks g c =
    omega (
      arith,
      c.in-Ok.ensures.marks.marks,
      c.in-Ok-clean_all.ensures.was.marks,
      flushed_marks g.J.OfCrew.settings.segment (Online c.in-Ok.start.start.0) (own_of c.clean_all.new.pass) (own_of c.finish.new.pass) c.finish.result c.finish.ensures.marks,
    )
