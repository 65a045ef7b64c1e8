use Rattle.std.proofs.Common.{◌≡◌, take}
use Rattle.wal_record.specs.Spelling.{IsWritableBlock}
use Rattle.std.specs.List.{All}
use Rattle.history.specs.checkpointer.Changes.{blocks_over}
use Rattle.history.proofs.checkpointer.kinds.blocks.Given as goal

abbrev pub invariant-loop-at : goal.invariant-loop-at
invariant-loop-at l = record {
  blocks : l.list.items ≡ blocks_over l.redo.0 (take l.at l.items) (take l.at l.before);
  writable : All IsWritableBlock l.list.items;
}
