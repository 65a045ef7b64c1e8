use Rattle.store_locks.proofs.Desks.{desk_flushed, wal_stays}
use Rattle.store_locks.proofs.Keeping.{wal_counted}
use Rattle.store_locks.proofs.desk.Desk.read.Goals as goal

pub invariant_of-self : goal.invariant_of-self
invariant_of-self g c =
    let d = c.self.inside in
    desk_flushed g.W.Vault _ _ _ _ _ _ d.journal c.read_whole.new.journal d.mark.to.0 c.read_whole.new.mark.to.0 d.faults.total d.faults.total d.counts.items d.entries d.made.total c.self.invariant c.read_whole.ensures.wal c.read_whole.ensures.marked
    (wal_stays g.W.Vault _ d.faults.total d.journal c.read_whole.new.journal c.read_whole.ensures.wal c.self.invariant.risen)

pub invariant_of-self-in-Err : goal.invariant_of-self-in-Err
invariant_of-self-in-Err g c =
    let d = c.self.inside in
    let new = c.read_whole.new.journal in
    desk_flushed g.W.Vault _ _ _ _ _ _ d.journal new d.mark.to.0 c.read_whole.new.mark.to.0 d.faults.total c.count.new.book.total d.counts.items d.entries d.made.total c.self.invariant c.read_whole.ensures.wal c.read_whole.ensures.marked
    (wal_counted c.in-Err.fault _ d.faults.total c.count.new.book.total (g.W.Vault.faults d.journal.wal.area) (g.W.Vault.faults new.wal.area) c.in-Err.ensures.cause c.count.ensures.total c.self.invariant.risen c.read_whole.ensures.wal.faults)
