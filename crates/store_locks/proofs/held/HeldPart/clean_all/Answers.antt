use Rattle.lsn_core.specs.declared.fault.StoreArea.TheVariants.{Data}
use Rattle.std.proofs.Common.{sym, subst, ◌≤◌}
use Rattle.page_pool.specs.Facts.{history_end}
use Rattle.store_locks.specs.Locked.{Shown}
use Rattle.store_locks.proofs.Kept.{part_written}
use Rattle.store_locks.proofs.Marked.{part_cleaned}
use Rattle.store_locks.proofs.Keeping.{held_with, risen_stays, risen_booked, rose_of}
use Rattle.store_locks.proofs.held.HeldPart.clean_all.Goals as goal

pub invariant_of-self : goal.invariant_of-self
invariant_of-self g c =
    let p = c.self.inside in
    let new = c.clean_all.new.self in
    held_with g.row.Q _ _ _ _ p.note.list p.part new p.share p.faults.total p.faults.total c.self.invariant
    (part_cleaned g.row.Q _ c.args.redo.0 _ p.note.list p.part new (subst (λ (s : Shown). c.args.redo.0 ≤ history_end s.list) (sym c.self.view_is) c.requires.late) c.in-Ok.ensures.written c.clean_all.ensures.area c.self.invariant.is)
    (risen_stays _ p.faults.total p.part.faults new.faults c.self.invariant.risen c.clean_all.ensures.area.faults)

pub invariant_of-self-in-Err : goal.invariant_of-self-in-Err
invariant_of-self-in-Err g c =
    let p = c.self.inside in
    let new = c.clean_all.new.self in
    held_with g.row.Q _ _ _ _ p.note.list p.part new p.share p.faults.total c.booked.new.book.total c.self.invariant
    (part_written g.row.Q _ _ p.note.list p.part new c.in-Err.ensures.kept c.clean_all.ensures.area c.self.invariant.is)
    (risen_booked (Data g.row.Q) c.in-Err.fault c.booked.result _ p.faults.total c.booked.new.book.total p.part.faults new.faults c.booked.ensures.fault c.booked.ensures.total c.self.invariant.risen c.clean_all.ensures.area.faults
    (rose_of p.part.faults new.faults c.clean_all.result c.in-Err.fault c.clean_all.ensures.cause c.in-Err.is))
