use Rattle.std.proofs.Common.{◌≡◌, ◌+◌, length, drop}
use Rattle.wal_record.specs.Spelling.{frags_bytes}
use Rattle.wal_record.proofs.blocks.frags_size.Given as goal

abbrev pub invariant-loop-frag : goal.invariant-loop-frag
invariant-loop-frag l = l.size + length (frags_bytes (drop l.frag-index l.frags)) ≡ length (frags_bytes l.frags)
