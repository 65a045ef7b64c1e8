use Rattle.std.proofs.Common.{◌≡◌, [], map, subst, sym, ap, ◌∙◌, arith}
use Rattle.std.proofs.lemmas.List.{take_all}
use Rattle.std.specs.Result.{IfOk}
use Rattle.history.specs.fuzzy_copies.Summary.{both_summed, summed}
use Rattle.wal_summary.specs.Summary.{AreSorted, IsSummary, table_of_summary}
use Rattle.wal_summary.specs.Marks.{table_of_marks}
use Rattle.wal_summary.proofs.Tables.{added_next}
use Rattle.wal_summary.proofs.Cover.{sorted_at}
use Rattle.wal_summary.proofs.kept.merged.Goals as goal

pub add_summary-requires : goal.add_summary-requires
add_summary-requires c = subst (λ s. AreSorted s.forks) (sym c.sum-item.is) (sorted_at 0 c.args.sums.now c.loop-sum.sum-index c.sum-item.result c.requires c.loop-sum-test.true)

pub loop-sum-preserved : goal.loop-sum-preserved
loop-sum-preserved c =
    let mid = table_of_marks c.loop-sum.marks in
    let new = table_of_marks c.add_summary.new.self in
    added_next table_of_summary (summed []) mid new c.args.sums.now c.loop-sum.sum-index c.sum-item.result c.loop-sum-test.true c.loop-sum.invariant
    (subst (λ x. new ≡ both_summed mid (table_of_summary x)) c.sum-item.is c.in_ok-add_summary.ensures)

pub returns : goal.returns
returns c =
    subst (λ t. IfOk c.summaries.result (λ forks. IsSummary t forks)) (c.loop-sum.invariant ∙ ap (λ l. summed (map table_of_summary l)) (take_all c.loop-sum.sum-index c.args.sums.now (omega arith))) c.summaries.ensures
