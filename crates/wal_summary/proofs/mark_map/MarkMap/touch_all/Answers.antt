use Rattle.std.proofs.Common.{◌≡◌, subst}
use Rattle.history.specs.fuzzy_copies.Summary.{both_summed}
use Rattle.wal_summary.specs.Marks.{table_of_marks}
use Rattle.wal_summary.specs.Inside.{table_of_ref}
use Rattle.wal_summary.proofs.Tables.{added_next}
use Rattle.wal_summary.proofs.mark_map.MarkMap.touch_all.Goals as goal

pub loop-block-preserved : goal.loop-block-preserved
loop-block-preserved c =
    let mid = table_of_marks c.loop-block.self in
    let new = table_of_marks c.touch.new.self in
    added_next table_of_ref (table_of_marks c.args.self.now) mid new c.args.blocks.now c.loop-block.block-index c.block-item.result c.loop-block-test.true c.loop-block.invariant
    (subst (λ x. new ≡ both_summed mid (table_of_ref x)) c.block-item.is c.in_ok-touch.ensures)
