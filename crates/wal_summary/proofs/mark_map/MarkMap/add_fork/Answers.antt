use Rattle.std.proofs.Common.{◌≡◌, map, subst}
use Rattle.std.proofs.lemmas.Result.{on_ok_weaker}
use Rattle.history.specs.fuzzy_copies.Summary.{both_summed, summed}
use Rattle.wal_summary.specs.Marks.{table_of_marks}
use Rattle.wal_summary.specs.Inside.{block_table}
use Rattle.wal_summary.proofs.Sums.{fork_added}
use Rattle.wal_summary.proofs.mark_map.MarkMap.add_fork.Goals as goal

pub returns : goal.returns
returns c =
    let s = c.args.sum.now in
    let mid = table_of_marks c.cut_maybe.new.self in
    let new = table_of_marks c.touch_blocks.new.self in
    on_ok_weaker c.touch_blocks.result
    (λ p. fork_added s (table_of_marks c.args.self.now) mid new c.in_ok-cut_maybe.ensures (subst (λ bs. new ≡ both_summed mid (summed (map (block_table s.fork) bs))) c.as_slice.ensures p))
    c.touch_blocks.ensures
