use Rattle.std.proofs.Common.{◌≡◌, ◌++◌, drop}
use Rattle.wal_record.specs.Spelling.{bodies_bytes}
use Rattle.wal_record.proofs.blocks.add_bodies.Given as goal

abbrev pub invariant-loop-block : goal.invariant-loop-block
invariant-loop-block l = l.bytes.items ++ bodies_bytes (drop l.block-index l.blocks) ≡ l.fn.bytes.items ++ bodies_bytes l.blocks
