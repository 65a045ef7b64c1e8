use Rattle.std.proofs.Common.{◌≡◌, [], ◌++◌, drop}
use Rattle.wal_pages.specs.declared.wal_heads.announce.MainHead.TheVariants.{Absent}
use Rattle.wal_pages.specs.wal_heads.Heads.{heads_bytes}
use Rattle.wal_record.specs.Spelling.{heads_of, all_heads}
use Rattle.wal_record.proofs.blocks.add_heads.Given as goal

abbrev pub invariant-loop-block : goal.invariant-loop-block
invariant-loop-block l = (l.id ≡ l.block-index) × (l.bytes.items ++ heads_bytes (heads_of l.id l.last (drop l.block-index l.blocks)) Absent [] ≡ l.fn.bytes.items ++ all_heads l.blocks)
