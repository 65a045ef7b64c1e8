use Rattle.std.proofs.Common.{arith}
use Rattle.wal_crc.proofs.Later.{moved_at}
use Rattle.wal_crc.proofs.tables.after_block.Goals as goal

pub returns : goal.returns
returns c = moved_at c.args.place c.args.byte (omega arith) (omega arith)
