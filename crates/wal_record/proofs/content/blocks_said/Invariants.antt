use Rattle.std.proofs.Common.{◌≡◌, drop}
use Rattle.wal_record.specs.Content.{blocks_said, no_name}
use Rattle.wal_record.proofs.Parting.{with_blocks}
use Rattle.wal_record.proofs.content.blocks_said.Given as goal

abbrev pub invariant-loop-head : goal.invariant-loop-head
invariant-loop-head l = with_blocks l.blocks.items (blocks_said l.form l.name (drop l.head-index l.heads) l.rest) ≡ blocks_said l.form no_name l.heads l.parts
