use Rattle.lsn_core.specs.declared.fault.StoreArea.TheVariants.{Data}
use Rattle.store_locks.proofs.Kept.{part_written}
use Rattle.store_locks.proofs.Keeping.{held_with, risen_stays, risen_booked, rose_of}
use Rattle.store_locks.proofs.held.HeldPart.make_room.Goals as goal

pub invariant_of-self : goal.invariant_of-self
invariant_of-self g c =
    let p = c.self.inside in
    let new = c.make_room.new.self in
    held_with g.row.Q _ _ _ _ p.note.list p.part new p.share p.faults.total p.faults.total c.self.invariant
    (part_written g.row.Q _ _ p.note.list p.part new c.make_room.ensures.written c.make_room.ensures.area c.self.invariant.is)
    (risen_stays _ p.faults.total p.part.faults new.faults c.self.invariant.risen c.make_room.ensures.area.faults)

pub invariant_of-self-in-Err : goal.invariant_of-self-in-Err
invariant_of-self-in-Err g c =
    let p = c.self.inside in
    let new = c.make_room.new.self in
    held_with g.row.Q _ _ _ _ p.note.list p.part new p.share p.faults.total c.booked.new.book.total c.self.invariant
    (part_written g.row.Q _ _ p.note.list p.part new c.make_room.ensures.written c.make_room.ensures.area c.self.invariant.is)
    (risen_booked (Data g.row.Q) c.in-Err.fault c.booked.result _ p.faults.total c.booked.new.book.total p.part.faults new.faults c.booked.ensures.fault c.booked.ensures.total c.self.invariant.risen c.make_room.ensures.area.faults
    (rose_of p.part.faults new.faults c.make_room.result c.in-Err.fault c.make_room.ensures.cause c.in-Err.is))
