use Rattle.std.proofs.Common.{◌≡◌, take, map}
use Rattle.history.specs.fuzzy_copies.Summary.{summed}
use Rattle.wal_summary.specs.Summary.{table_of_summary}
use Rattle.wal_summary.specs.Marks.{table_of_marks}
use Rattle.wal_summary.proofs.kept.merged.Given as goal

abbrev pub invariant-loop-sum : goal.invariant-loop-sum
invariant-loop-sum l = table_of_marks l.marks ≡ summed (map table_of_summary (take l.sum-index l.sums))
