use Rattle.std.proofs.Common.{◌≡◌, ◌∷◌, [], subst}
use Rattle.history.specs.Whole.{entry_of}
use Rattle.history.specs.fuzzy_copies.Summary.{both_summed, summary_of}
use Rattle.wal_summary.specs.Marks.{table_of_marks}
use Rattle.wal_summary.proofs.Entries.{record_added}
use Rattle.wal_summary.proofs.mark_map.MarkMap.add_records.Goals as goal

pub loop-rec-preserved : goal.loop-rec-preserved
loop-rec-preserved c =
    let mid = table_of_marks c.loop-rec.self in
    let new = table_of_marks c.add_between.new.self in
    record_added c.args.start.0 c.args.end.0 (table_of_marks c.args.self.now) mid new c.args.recs.now c.loop-rec.rec-index c.rec-item.result c.loop-rec-test.true c.loop-rec.invariant
    (subst (λ x. new ≡ both_summed mid (summary_of (entry_of x ∷ []) c.args.start.0 c.args.end.0)) c.rec-item.is c.in_ok-add_between.ensures)
