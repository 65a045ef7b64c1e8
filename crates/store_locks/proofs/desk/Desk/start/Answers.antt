use Rattle.std.proofs.Common.{sym, ◌∙◌}
use Rattle.store_locks.proofs.Keeping.{started_on}
use Rattle.store_locks.proofs.desk.Desk.start.Goals as goal

pub returns-clause-was : goal.returns-clause-was
returns-clause-was g c =
    started_on c.append_start-marked.result c.args.own.now c.meet.new.own c.append_start-marked.new.own c.look.new.own c.meet.new.self c.append_start-marked.new.self c.meet.new.own.worker
    c.meet.ensures.was (c.meet.ensures.whole ∙ sym c.meet.ensures.same) c.append_start-marked.ensures.marked c.append_start-marked.ensures.same c.append_start-marked.ensures.books.whole c.append_start-marked.ensures.books.worker c.append_start-marked.ensures.books.accepted c.look.ensures.was
