use Rattle.std.proofs.Common.{◌≡◌, ◌-◌, ◌^◌, true, cond}
use Rattle.std.specs.Prelude.{None}
use Rattle.history.specs.fuzzy_copies.Orderly.{IsOrderly}
use Rattle.wal_summary.specs.Marks.{table_of_marks}
use Rattle.store_locks.specs.Records.{IsPlaceOf}
use Rattle.shared_summaries.specs.summary_publish.Published.{LooksOn}
use Rattle.shared_summaries.specs.summary_publish.Entries.{next_redo}
use Rattle.shared_summaries.proofs.summary_publish.Ranges.{IsReadTo}
use Rattle.shared_summaries.proofs.summary_publish.Fitting.{Fits}
use Rattle.shared_summaries.proofs.summary_publish.reading.next_range.Given as goal

abbrev pub invariant-loop-ended : goal.invariant-loop-ended
invariant-loop-ended g l = record {
  looks : LooksOn l.fn.pass l.pass;
  faults : l.pass.faults ≡ l.fn.pass.faults;
  orderly : g.J.OfStore.tells ≡ true → IsOrderly 0 l.pass.list;
  read : g.J.OfStore.tells ≡ true → IsReadTo l.pass.list l.from.0 l.reading.at.0 (table_of_marks l.reading.marks);
  fits : Fits (table_of_marks l.reading.marks);
  place : g.J.OfStore.tells ≡ true → IsPlaceOf l.pass.list l.reading.at.0;
  known : g.J.OfStore.tells ≡ true → IsPlaceOf l.pass.list l.known.0;
  none : l.ended ≡ true → g.J.OfStore.tells ≡ true → next_redo l.from.0 l.pass.list ≡ None;
}

abbrev pub decreases-loop-ended : goal.decreases-loop-ended
decreases-loop-ended g l = cond l.ended 0 (2 ^ 64 - l.reading.at.0)
