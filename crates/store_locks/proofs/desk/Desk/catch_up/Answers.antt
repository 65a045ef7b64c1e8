use Rattle.std.proofs.Common.{◌≡◌, true, List, sym, subst, ◌∙◌}
use Rattle.history.specs.Entry.{Entry}
use Rattle.store_ledgers.specs.Counts.{Held}
use Rattle.journal.specs.Lawful.{IsLawful}
use Rattle.store_locks.specs.Locked.{IsHeldPart}
use Rattle.store_locks.proofs.Keeping.{caught_up, ends_later}
use Rattle.store_locks.proofs.desk.Desk.catch_up.Goals as goal

pub invariant_of-part : goal.invariant_of-part
invariant_of-part g c =
    let desk = c.self.inside in
    let part = c.part.inside in
    let log = desk.journal.wal.tail in
    subst (λ (l : List Entry). IsHeldPart g.row.Q g.J.OfCrew.settings (g.J.OfStore.tells ≡ true) g.J.OfCrew.found (g.J.OfCrew.starts g.row.Q) part.part l c.audit.new.share part.faults.total) (sym c.meet.ensures.list)
    (subst (λ (s : Held). IsHeldPart g.row.Q g.J.OfCrew.settings (g.J.OfStore.tells ≡ true) g.J.OfCrew.found (g.J.OfCrew.starts g.row.Q) part.part desk.journal.pen s part.faults.total) (sym c.audit.ensures.share)
    (caught_up g.row.Q (g.J.OfCrew.starts g.row.Q) g.J.OfCrew.settings (g.J.OfStore.tells ≡ true) g.J.OfCrew.found part.note.list desk.journal.pen part.part part.share part.faults.total c.part.invariant c.meet.ensures.was c.self.invariant.grown
    (ends_later log part.note.list desk.journal.pen c.tip-tip.ensures.ended c.meet.ensures.was)
    (λ tell. subst (λ n. IsLawful n desk.journal.pen) c.self.invariant.wal.segment (c.know.ensures tell).lawful)
    (c.audit.ensures.is ∙ c.self.invariant.concerned_are g.row.Q c.requires)))
