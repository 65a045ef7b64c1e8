use Rattle.std.proofs.Common.{◌≡◌, subst}
use Rattle.history.specs.fuzzy_copies.Summary.{both_summed}
use Rattle.wal_summary.specs.Marks.{table_of_marks}
use Rattle.wal_summary.specs.Inside.{rel_table}
use Rattle.wal_summary.proofs.Tables.{added_next}
use Rattle.wal_summary.proofs.mark_map.MarkMap.cut_rels.Goals as goal

pub loop-rel-preserved : goal.loop-rel-preserved
loop-rel-preserved c =
    let mid = table_of_marks c.loop-rel.self in
    let new = table_of_marks c.cut_rel.new.self in
    added_next rel_table (table_of_marks c.args.self.now) mid new c.args.rels.now c.loop-rel.rel-index c.rel-item.result c.loop-rel-test.true c.loop-rel.invariant
    (subst (λ x. new ≡ both_summed mid (rel_table x)) c.rel-item.is c.in_ok-cut_rel.ensures)
