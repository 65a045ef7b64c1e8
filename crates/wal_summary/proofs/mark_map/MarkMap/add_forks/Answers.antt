use Rattle.std.proofs.Common.{◌≡◌, map, subst, ap, ◌∙◌, arith}
use Rattle.std.proofs.lemmas.List.{take_all}
use Rattle.history.specs.fuzzy_copies.Summary.{both_summed, summed}
use Rattle.wal_summary.specs.Marks.{table_of_marks}
use Rattle.wal_summary.proofs.Tables.{added_next}
use Rattle.wal_summary.proofs.Sums.{fork_table, forks_say}
use Rattle.wal_summary.proofs.mark_map.MarkMap.add_forks.Goals as goal

pub loop-fork-preserved : goal.loop-fork-preserved
loop-fork-preserved c =
    let mid = table_of_marks c.loop-fork.self in
    let new = table_of_marks c.add_fork.new.self in
    added_next fork_table (table_of_marks c.args.self.now) mid new c.args.forks.now c.loop-fork.fork-index c.fork-item.result c.loop-fork-test.true c.loop-fork.invariant
    (subst (λ x. new ≡ both_summed mid (fork_table x)) c.fork-item.is c.in_ok-add_fork.ensures)

pub returns : goal.returns
returns c =
    c.loop-fork.invariant
    ∙ ap (λ l. both_summed (table_of_marks c.args.self.now) (summed (map fork_table l))) (take_all c.loop-fork.fork-index c.args.forks.now (omega arith))
    ∙ ap (both_summed (table_of_marks c.args.self.now)) (forks_say c.args.forks.now c.requires)
