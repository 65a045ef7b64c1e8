use Rattle.std.proofs.Common.{◌≡◌, take, map}
use Rattle.history.specs.fuzzy_copies.Summary.{both_summed, summed}
use Rattle.wal_summary.specs.Marks.{table_of_marks}
use Rattle.wal_summary.specs.Inside.{block_table}
use Rattle.wal_summary.proofs.mark_map.MarkMap.touch_blocks.Given as goal

abbrev pub invariant-loop-block : goal.invariant-loop-block
invariant-loop-block l = table_of_marks l.self ≡ both_summed (table_of_marks l.fn.self) (summed (map (block_table l.fork) (take l.block-index l.blocks)))
