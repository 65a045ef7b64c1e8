-- What is prepared comes first.
use Rattle.store_commands.proofs.NewWal.{first_is}
use Rattle.store_commands.proofs.new_wal.first_entry.Goals as goal

pub returns-in-Ok : goal.returns-in-Ok
returns-in-Ok g c = first_is c.args.settings.now c.args.wal.now.tail c.first_start.result c.in-Ok.entry c.requires c.first_start.ensures c.in-Ok.ensures.0 c.in-Ok.ensures.1.bytes
