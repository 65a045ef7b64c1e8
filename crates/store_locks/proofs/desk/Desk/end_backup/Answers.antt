-- The end of a backup is the last entry that the worker has seen.
use Rattle.std.proofs.Common.{List, sym, subst, ◌∙◌}
use Rattle.history.specs.Entry.{Entry, BackupEnd}
use Rattle.store_locks.specs.Inside.{HasMark}
use Rattle.store_locks.specs.Calls.{IsPlaced}
use Rattle.store_locks.proofs.Keeping.{goes_still, mark_placed, marked_on}
use Rattle.store_locks.proofs.desk.Desk.end_backup.Goals as goal

pub returns-in-Ok-flush_to-clause-placed : goal.returns-in-Ok-flush_to-clause-placed
returns-in-Ok-flush_to-clause-placed g c =
    let d = c.self.inside in
    let place = c.in-Ok.place in
    let up = c.self.view_is ∙ c.look-2.ensures.same in
    subst (λ (l : List Entry). IsPlaced g.J.OfCrew.settings.segment l place.end.0) (sym (c.flush_to.ensures.list ∙ (c.look-2.ensures.whole ∙ sym up)))
    (mark_placed d.journal.wal.tail g.J.OfCrew.settings.segment c.meet.new.own.worker (BackupEnd c.args.start.0) c.meet.new.self d.journal.pen place c.tip-tip.ensures.known c.tip-tip.ensures.ended c.self.invariant.wal.segment
    (subst (λ (l : List Entry). HasMark c.meet.new.own.worker (BackupEnd c.args.start.0) c.meet.new.self l place) (sym up) c.in-Ok.ensures.marked))

pub returns-in-Ok-flush_to-clause-was : goal.returns-in-Ok-flush_to-clause-was
returns-in-Ok-flush_to-clause-was g c =
    goes_still c.args.own.now c.look-2.new.own c.flush_to.new.own
    (marked_on (BackupEnd c.args.start.0) c.in-Ok.place c.args.own.now c.meet.new.own c.append_backup_end.new.own c.look-2.new.own c.meet.new.self c.append_backup_end.new.self c.meet.new.own.worker
    c.meet.ensures.was (c.meet.ensures.whole ∙ sym c.meet.ensures.same) c.in-Ok.ensures.marked c.append_backup_end.ensures.books.whole c.append_backup_end.ensures.books.worker c.append_backup_end.ensures.books.accepted c.look-2.ensures.was)
    c.flush_to.ensures.list c.flush_to.ensures.worker c.flush_to.ensures.accepted

pub returns-in-Err-flush_to-clause-was : goal.returns-in-Err-flush_to-clause-was
returns-in-Err-flush_to-clause-was g c =
    goes_still c.args.own.now c.look-2.new.own c.flush_to.new.own
    (marked_on (BackupEnd c.args.start.0) c.in-Ok.place c.args.own.now c.meet.new.own c.append_backup_end.new.own c.look-2.new.own c.meet.new.self c.append_backup_end.new.self c.meet.new.own.worker
    c.meet.ensures.was (c.meet.ensures.whole ∙ sym c.meet.ensures.same) c.in-Ok.ensures.marked c.append_backup_end.ensures.books.whole c.append_backup_end.ensures.books.worker c.append_backup_end.ensures.books.accepted c.look-2.ensures.was)
    c.flush_to.ensures.list c.flush_to.ensures.worker c.flush_to.ensures.accepted
