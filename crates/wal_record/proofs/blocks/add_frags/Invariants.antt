use Rattle.std.proofs.Common.{◌≡◌, ◌++◌, drop}
use Rattle.wal_record.specs.Spelling.{frags_bytes}
use Rattle.wal_record.proofs.blocks.add_frags.Given as goal

abbrev pub invariant-loop-frag : goal.invariant-loop-frag
invariant-loop-frag l = l.bytes.items ++ frags_bytes (drop l.frag-index l.frags) ≡ l.fn.bytes.items ++ frags_bytes l.frags
