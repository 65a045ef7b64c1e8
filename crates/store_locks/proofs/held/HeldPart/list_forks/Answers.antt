use Rattle.lsn_core.specs.declared.fault.StoreArea.TheVariants.{Data}
use Rattle.std.proofs.Common.{sym, subst, ◌≤◌}
use Rattle.store_locks.specs.Locked.{Shown}
use Rattle.store_locks.specs.Copied.{HasRedoPoint, ListsPart}
use Rattle.store_locks.proofs.Copies.{read_of, listed}
use Rattle.store_locks.proofs.Kept.{part_read, sized}
use Rattle.store_locks.proofs.Keeping.{held_with, risen_stays, risen_booked, rose_of}
use Rattle.store_locks.proofs.held.HeldPart.list_forks.Goals as goal

pub invariant_of-self : goal.invariant_of-self
invariant_of-self g c =
    let p = c.self.inside in
    let new = c.list_forks.new.self in
    held_with g.row.Q _ _ _ _ p.note.list p.part new p.share p.faults.total p.faults.total c.self.invariant
    (part_read g.row.Q _ _ p.note.list p.part new c.list_forks.ensures.same c.list_forks.ensures.reads c.self.invariant.is)
    (risen_stays _ p.faults.total p.part.faults new.faults c.self.invariant.risen c.list_forks.ensures.reads.faults)

pub invariant_of-self-in-Err : goal.invariant_of-self-in-Err
invariant_of-self-in-Err g c =
    let p = c.self.inside in
    let new = c.list_forks.new.self in
    held_with g.row.Q _ _ _ _ p.note.list p.part new p.share p.faults.total c.booked.new.book.total c.self.invariant
    (part_read g.row.Q _ _ p.note.list p.part new c.list_forks.ensures.same c.list_forks.ensures.reads c.self.invariant.is)
    (risen_booked (Data g.row.Q) c.in-Err.fault c.booked.result _ p.faults.total c.booked.new.book.total p.part.faults new.faults c.booked.ensures.fault c.booked.ensures.total c.self.invariant.risen c.list_forks.ensures.reads.faults
    (rose_of p.part.faults new.faults c.list_forks.result c.in-Err.fault c.list_forks.ensures.cause c.in-Err.is))

pub returns-in-Ok-clause-listed : goal.returns-in-Ok-clause-listed
returns-in-Ok-clause-listed g c =
    let p = c.self.inside in
    let new = c.list_forks.new.self in
    let mib = g.J.OfCrew.settings.segment in
    let redo = subst (λ (s : Shown). HasRedoPoint s.list c.args.from.0) (sym c.self.view_is) c.requires.redo in
    λ tell. subst (λ (s : Shown). ListsPart g.row.Q s.list c.args.from.0 c.in-Ok.list.items) c.self.view_is
    (listed g.row.Q c.args.from.0 _ mib p.note.list p.part new tell
    (read_of g.row.Q c.args.from.0 _ mib p.note.list p.part new (sized g.row.Q _ _ p.note.list p.part c.self.invariant.is) (c.self.invariant.lawful tell) redo
    (subst (λ (s : Shown). c.args.from.0 ≤ s.part.point) (sym c.self.view_is) (c.requires.raised tell))
    c.in-Ok.ensures.known c.in-Ok.ensures.whole c.in-Ok.ensures.same c.in-Ok.ensures.reads) c.in-Ok.list.items c.in-Ok.ensures.list)
