use Rattle.history.specs.Entry.{BackupEnd}
use Rattle.shared_store.specs.Shared.{own_of}
use Rattle.shared_store.proofs.MarkFaults.{ended_not, flushed_marks}
use Rattle.shared_store.proofs.store.Store.end_backup.Goals as goal

pub returns-in-Err-clause-left : goal.returns-in-Err-clause-left
returns-in-Err-clause-left g c = ended_not g.J.OfCrew.settings.segment c.args.start.0 c.args.pass.now c.end_mark.new.pass c.in-Err.fault c.in-Err.ensures.marks

pub returns-in-Err-clause-marks : goal.returns-in-Err-clause-marks
returns-in-Err-clause-marks g c =
    flushed_marks g.J.OfCrew.settings.segment (BackupEnd c.args.start.0) (own_of c.args.pass.now) (own_of c.end_mark.new.pass) c.end_mark.result c.end_mark.ensures.marks
