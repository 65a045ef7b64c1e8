use Rattle.std.proofs.Common.{arith}
use Rattle.wal_crc.proofs.Runs.{moved_parts}
use Rattle.wal_crc.proofs.crc.moved.Goals as goal

pub returns : goal.returns
returns c =
    moved_parts c.args.register (omega arith) _ c.to_le_bytes-bytes.ensures _ _ _ _
    c.after_block.ensures c.after_block-2.ensures c.after_block-3.ensures c.after_block-4.ensures
