use Rattle.std.proofs.Common.{ap, subst}
use mathlib.Core.List.{IsPrefix}
use Rattle.store_locks.specs.Locked.{Standing}
use Rattle.store_locks.proofs.Keeping.{follows_to}
use Rattle.store_locks.proofs.desk.Desk.meet.Goals as goal

pub returns-clause-was : goal.returns-clause-was
returns-clause-was g c =
    follows_to c.self.inside.journal.wal.tail c.self.inside.journal.pen _ _ c.tip-tip.ensures.ended
    (subst (λ (s : Standing). IsPrefix s.list c.self.inside.journal.pen) c.own.view_is c.meet.ensures.was) c.meet.ensures.list
    (ap (λ (s : Standing). s.worker) c.own.view_is) (ap (λ (s : Standing). s.accepted) c.own.view_is) (ap (λ (s : Standing). s.marks) c.own.view_is)
