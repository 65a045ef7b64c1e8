use Rattle.std.proofs.Common.{◌≡◌, ◌++◌, drop}
use Rattle.wal_record.specs.Spelling.{rels_bytes}
use Rattle.wal_record.proofs.encode.add_rels.Given as goal

abbrev pub invariant-loop-rel : goal.invariant-loop-rel
invariant-loop-rel l = l.bytes.items ++ rels_bytes (drop l.rel-index l.rels) ≡ l.fn.bytes.items ++ rels_bytes l.rels
