use Rattle.std.proofs.Common.{sym, ◌∙◌}
use Rattle.history.specs.Entry.{Online}
use Rattle.store_locks.proofs.Keeping.{goes_still, marked_on}
use Rattle.store_locks.proofs.desk.Desk.finish.Goals as goal

pub returns-in-Ok-flush_to-clause-was : goal.returns-in-Ok-flush_to-clause-was
returns-in-Ok-flush_to-clause-was g c =
    goes_still c.args.own.now c.look-2.new.own c.flush_to.new.own
    (marked_on (Online c.args.redo.0) c.in-Ok.place c.args.own.now c.meet.new.own c.append_end.new.own c.look-2.new.own c.meet.new.self c.append_end.new.self c.meet.new.own.worker
    c.meet.ensures.was (c.meet.ensures.whole ∙ sym c.meet.ensures.same) c.in-Ok.ensures.marked c.append_end.ensures.books.whole c.append_end.ensures.books.worker c.append_end.ensures.books.accepted c.look-2.ensures.was)
    c.flush_to.ensures.list c.flush_to.ensures.worker c.flush_to.ensures.accepted

pub returns-in-Err-flush_to-clause-was : goal.returns-in-Err-flush_to-clause-was
returns-in-Err-flush_to-clause-was g c =
    goes_still c.args.own.now c.look-2.new.own c.flush_to.new.own
    (marked_on (Online c.args.redo.0) c.in-Ok.place c.args.own.now c.meet.new.own c.append_end.new.own c.look-2.new.own c.meet.new.self c.append_end.new.self c.meet.new.own.worker
    c.meet.ensures.was (c.meet.ensures.whole ∙ sym c.meet.ensures.same) c.in-Ok.ensures.marked c.append_end.ensures.books.whole c.append_end.ensures.books.worker c.append_end.ensures.books.accepted c.look-2.ensures.was)
    c.flush_to.ensures.list c.flush_to.ensures.worker c.flush_to.ensures.accepted
