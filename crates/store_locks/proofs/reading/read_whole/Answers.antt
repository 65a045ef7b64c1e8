use Rattle.store_locks.proofs.Pieces.{keeps_on, cause_from, records_of}
use Rattle.store_locks.proofs.reading.read_whole.Goals as goal

pub returns-in-Ok-clause-records : goal.returns-in-Ok-clause-records
returns-in-Ok-clause-records g c =
    λ tell. records_of c.args.settings.now c.args.journal.now.pen c.read_behind.new.journal.pen (g.V.Vault.files c.read_behind.new.journal.wal.area) c.args.from.0 c.args.most c.read_behind.result
    (let keeps = keeps_on g.V.Vault c.args.journal.now c.flush_whole.new.journal c.read_behind.new.journal c.flush_whole.ensures.wal c.read_behind.ensures.wal in keeps.pen) (c.read_behind.ensures.records tell)

pub returns-in-Ok-clause-wal : goal.returns-in-Ok-clause-wal
returns-in-Ok-clause-wal g c = keeps_on g.V.Vault c.args.journal.now c.flush_whole.new.journal c.read_behind.new.journal c.flush_whole.ensures.wal c.read_behind.ensures.wal

pub returns-in-Ok-clause-cause : goal.returns-in-Ok-clause-cause
returns-in-Ok-clause-cause g c =
    cause_from (g.V.Vault.faults c.args.journal.now.wal.area) (g.V.Vault.faults c.flush_whole.new.journal.wal.area) (g.V.Vault.faults c.read_behind.new.journal.wal.area) c.read_behind.result c.flush_whole.ensures.wal.faults c.read_behind.ensures.cause
