use Rattle.std.proofs.Common.{refl, arith}
use Rattle.wal_crc.specs.Crc.{bit_steps}
use Rattle.wal_crc.specs.declared.tables.TheConstants.{REGISTERS}
use Rattle.wal_crc.proofs.Registers.{byte_rows, rows_from, numbers_from, register_at}
use Rattle.wal_crc.proofs.tables.after_zeros.Goals as goal

pub returns : goal.returns
unfolding byte_rows rows_from numbers_from bit_steps
returns c = register_at REGISTERS refl c.args.zeros c.args.byte (omega arith) (omega arith)
