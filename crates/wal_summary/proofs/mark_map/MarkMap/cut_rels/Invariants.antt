use Rattle.std.proofs.Common.{◌≡◌, take, map}
use Rattle.history.specs.fuzzy_copies.Summary.{both_summed, summed}
use Rattle.wal_summary.specs.Marks.{table_of_marks}
use Rattle.wal_summary.specs.Inside.{rel_table}
use Rattle.wal_summary.proofs.mark_map.MarkMap.cut_rels.Given as goal

abbrev pub invariant-loop-rel : goal.invariant-loop-rel
invariant-loop-rel l = table_of_marks l.self ≡ both_summed (table_of_marks l.fn.self) (summed (map rel_table (take l.rel-index l.rels)))
