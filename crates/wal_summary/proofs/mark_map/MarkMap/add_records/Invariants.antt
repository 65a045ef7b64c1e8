use Rattle.std.proofs.Common.{◌≡◌, take, map}
use Rattle.history.specs.Whole.{entry_of}
use Rattle.history.specs.fuzzy_copies.Summary.{both_summed, summary_of}
use Rattle.wal_summary.specs.Marks.{table_of_marks}
use Rattle.wal_summary.proofs.mark_map.MarkMap.add_records.Given as goal

abbrev pub invariant-loop-rec : goal.invariant-loop-rec
invariant-loop-rec l = table_of_marks l.self ≡ both_summed (table_of_marks l.fn.self) (summary_of (map entry_of (take l.rec-index l.recs)) l.start.0 l.end.0)
