use Rattle.std.proofs.Common.{arith}
use Rattle.wal_crc.proofs.Runs.{joined_later}
use Rattle.wal_crc.proofs.crc.emptied_later.Goals as goal

pub returns : goal.returns
returns c =
    joined_later c.args.word (omega arith) _ c.to_le_bytes-bytes.ensures _ _ _ _ _ _ _ _
    c.after_zeros.ensures c.after_zeros-2.ensures c.after_zeros-3.ensures c.after_zeros-4.ensures
    c.after_zeros-5.ensures c.after_zeros-6.ensures c.after_zeros-7.ensures c.after_zeros-8.ensures
