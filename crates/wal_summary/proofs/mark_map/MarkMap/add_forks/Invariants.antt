use Rattle.std.proofs.Common.{◌≡◌, take, map}
use Rattle.history.specs.fuzzy_copies.Summary.{both_summed, summed}
use Rattle.wal_summary.specs.Marks.{table_of_marks}
use Rattle.wal_summary.proofs.Sums.{fork_table}
use Rattle.wal_summary.proofs.mark_map.MarkMap.add_forks.Given as goal

abbrev pub invariant-loop-fork : goal.invariant-loop-fork
invariant-loop-fork l = table_of_marks l.self ≡ both_summed (table_of_marks l.fn.self) (summed (map fork_table (take l.fork-index l.forks)))
