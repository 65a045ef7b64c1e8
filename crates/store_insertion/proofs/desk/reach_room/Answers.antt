use Rattle.store_locks.proofs.Desks.{desk_flushed, wal_stays}
use Rattle.store_locks.proofs.Keeping.{wal_counted}
use Rattle.store_insertion.proofs.desk.reach_room.Goals as goal

pub invariant_of-desk : goal.invariant_of-desk
invariant_of-desk g c =
    let d = c.desk.inside in
    desk_flushed g.W.Vault _ _ _ _ _ _ d.journal c.flush_before.new.journal d.mark.to.0 c.flush_before.new.mark.to.0 d.faults.total d.faults.total d.counts.items d.entries d.made.total c.desk.invariant c.flush_before.ensures.wal c.flush_before.ensures.marked
    (wal_stays g.W.Vault _ d.faults.total d.journal c.flush_before.new.journal c.flush_before.ensures.wal c.desk.invariant.risen)

pub invariant_of-desk-in-Err : goal.invariant_of-desk-in-Err
invariant_of-desk-in-Err g c =
    let d = c.desk.inside in
    let new = c.flush_before.new.journal in
    desk_flushed g.W.Vault _ _ _ _ _ _ d.journal new d.mark.to.0 c.flush_before.new.mark.to.0 d.faults.total c.count.new.book.total d.counts.items d.entries d.made.total c.desk.invariant c.flush_before.ensures.wal c.flush_before.ensures.marked
    (wal_counted c.in-Err.fault _ d.faults.total c.count.new.book.total (g.W.Vault.faults d.journal.wal.area) (g.W.Vault.faults new.wal.area) c.in-Err.ensures.cause c.count.ensures.total c.desk.invariant.risen c.flush_before.ensures.wal.faults)
