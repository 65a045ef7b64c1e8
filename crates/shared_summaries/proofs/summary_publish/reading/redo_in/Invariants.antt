use Rattle.std.proofs.Common.{◌≡◌, map, length}
use Rattle.history.specs.Whole.{entry_of}
use Rattle.shared_summaries.specs.summary_publish.Entries.{next_redo}
use Rattle.shared_summaries.proofs.summary_publish.reading.redo_in.Given as goal

abbrev pub invariant-loop-rec : goal.invariant-loop-rec
invariant-loop-rec l = next_redo l.from.0 (map entry_of l.piece) ≡ next_redo l.from.0 (map entry_of l.left)

abbrev pub decreases-loop-rec : goal.decreases-loop-rec
decreases-loop-rec l = length l.left
