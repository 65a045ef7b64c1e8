use Rattle.std.proofs.Common.{arith}
use Rattle.store_commands.proofs.NewWal.{init_done}
use Rattle.store_commands.proofs.new_store.init_areas.Goals as goal

pub returns-in-Err-clause-answer : goal.returns-in-Err-clause-answer
returns-in-Err-clause-answer g c = c.in-Err.ensures.refused c.args.settings

pub returns-in-Ok-clause-answer : goal.returns-in-Ok-clause-answer
returns-in-Ok-clause-answer g c =
    init_done c.args.settings c.write_wal-wal.result.1 c.in-Ok.end _ _ (g.V.Vault.files c.check_clear.new.wal) c.in-Ok.is c.in_default.ensures.wal_clear c.in_default.ensures.sums_clear c.check_clear.ensures.wal.files c.write_wal-wal.ensures.end c.write_wal-wal.ensures.written c.write_wal-wal.ensures.durable
    c.write_wal-wal.ensures.known.0 c.write_wal-wal.ensures.known.1 (omega arith)
