use Rattle.page_pool.proofs.Followed.{one_written}
use Rattle.page_pool.proofs.InTurn.{tells_as}
use Rattle.lsn_core.specs.declared.fault.StoreArea.TheVariants.{Data}
use Rattle.store_locks.proofs.Kept.{part_written, unwritten_same}
use Rattle.store_locks.proofs.Keeping.{held_with, risen_stays, risen_booked, rose_of}
use Rattle.store_locks.proofs.held.HeldPart.write_one.Goals as goal

pub invariant_of-self : goal.invariant_of-self
invariant_of-self g c =
    let p = c.self.inside in
    let new = c.write_one.new.self in
    let alike = tells_as p.part.disk new.disk c.write_one.ensures.area.files in
    held_with g.row.Q _ _ _ _ p.note.list p.part new p.share p.faults.total p.faults.total c.self.invariant
    (part_written g.row.Q _ _ p.note.list p.part new (one_written c.in-Ok.turn.wrote p.part new c.in-Ok.ensures.written alike) c.write_one.ensures.area c.self.invariant.is)
    (risen_stays _ p.faults.total p.part.faults new.faults c.self.invariant.risen c.write_one.ensures.area.faults)

pub invariant_of-self-in-Err : goal.invariant_of-self-in-Err
invariant_of-self-in-Err g c =
    let p = c.self.inside in
    let new = c.write_one.new.self in
    let alike = tells_as p.part.disk new.disk c.write_one.ensures.area.files in
    held_with g.row.Q _ _ _ _ p.note.list p.part new p.share p.faults.total c.booked.new.book.total c.self.invariant
    (part_written g.row.Q _ _ p.note.list p.part new (unwritten_same p.part new c.in-Err.ensures.kept alike) c.write_one.ensures.area c.self.invariant.is)
    (risen_booked (Data g.row.Q) c.in-Err.fault c.booked.result _ p.faults.total c.booked.new.book.total p.part.faults new.faults c.booked.ensures.fault c.booked.ensures.total c.self.invariant.risen c.write_one.ensures.area.faults
    (rose_of p.part.faults new.faults c.write_one.result c.in-Err.fault c.write_one.ensures.cause c.in-Err.is))
