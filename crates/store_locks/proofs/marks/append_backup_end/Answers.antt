use Rattle.std.specs.Prelude.{None}
use Rattle.history.specs.Entry.{Mark, BackupEnd}
use Rattle.history.specs.Written.{mark_kind}
use Rattle.store_locks.proofs.Goes.{adds_of}
use Rattle.store_locks.proofs.Marked.{mark_of}
use Rattle.store_locks.proofs.marks.append_backup_end.Goals as goal

pub returns-in-Ok-clause-marked : goal.returns-in-Ok-clause-marked
returns-in-Ok-clause-marked g c =
    mark_of c.args.journal.now.wal.tail c.args.worker (BackupEnd c.args.start.0) c.args.journal.now.pen c.append_backup_end.new.self.pen c.in-Ok.record c.place_of.result c.tip-tip.ensures.known c.tip-tip.ensures.ended c.in-Ok.ensures.answer.0 c.in-Ok.ensures.told c.place_of.ensures.start c.place_of.ensures.end

pub returns-in-Ok-clause-adds : goal.returns-in-Ok-clause-adds
returns-in-Ok-clause-adds g c =
    adds_of (mark_kind (BackupEnd c.args.start.0)) (Mark (BackupEnd c.args.start.0)) c.args.worker None c.args.journal.now c.append_backup_end.new.self c.append_backup_end.result c.tip-tip.ensures.known c.tip-tip.ensures.ended c.append_backup_end.ensures.answer c.append_backup_end.ensures.told c.append_backup_end.ensures.same c.append_backup_end.ensures.area

pub returns-in-Err-WalFull-clause-adds : goal.returns-in-Err-WalFull-clause-adds
returns-in-Err-WalFull-clause-adds g c =
    adds_of (mark_kind (BackupEnd c.args.start.0)) (Mark (BackupEnd c.args.start.0)) c.args.worker None c.args.journal.now c.append_backup_end.new.self c.append_backup_end.result c.tip-tip.ensures.known c.tip-tip.ensures.ended c.append_backup_end.ensures.answer c.append_backup_end.ensures.told c.append_backup_end.ensures.same c.append_backup_end.ensures.area

pub returns-in-Err-NoMemory-clause-adds : goal.returns-in-Err-NoMemory-clause-adds
returns-in-Err-NoMemory-clause-adds g c =
    adds_of (mark_kind (BackupEnd c.args.start.0)) (Mark (BackupEnd c.args.start.0)) c.args.worker None c.args.journal.now c.append_backup_end.new.self c.append_backup_end.result c.tip-tip.ensures.known c.tip-tip.ensures.ended c.append_backup_end.ensures.answer c.append_backup_end.ensures.told c.append_backup_end.ensures.same c.append_backup_end.ensures.area
