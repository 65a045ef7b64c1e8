use Rattle.std.proofs.Common.{sym, subst, ◌∙◌}
use Rattle.std.proofs.lemmas.Map.Iter.{rest_more, rest_all}
use Rattle.std.specs.Map.Iter.{deref_pair}
use Rattle.wal_summary.specs.Summary.{IsSummary}
use Rattle.wal_summary.specs.Marks.{table_in}
use Rattle.wal_summary.proofs.Sums.{gone_on, gone_all, map_summary}
use Rattle.wal_summary.proofs.mark_map.summaries_in.Goals as goal

pub loop-fork-preserved : goal.loop-fork-preserved
loop-fork-preserved c =
    gone_on c.args.forks.now (c.in-Some.fork.now, c.in-Some.marks.now) c.loop-fork.fork-iterator c.next.new.self c.loop-fork.sums.items c.push_fork.new.sums.items c.loop-fork.invariant (rest_more deref_pair _ _ _ _ c.in-Some.is c.next.ensures.steps)
    c.in_ok-push_fork.ensures.sorted c.in_ok-push_fork.ensures.pushed

pub returns : goal.returns
returns c =
    let g = gone_all c.args.forks.now c.loop-fork.fork-iterator c.loop-fork.sums.items c.loop-fork.invariant (rest_all deref_pair _ _ _ c.in-None.is c.next.ensures.steps) in
    subst (IsSummary (table_in c.args.forks.now)) (sym (c.from_vec.ensures ∙ g.1)) (map_summary c.args.forks.now c.iter-fork-items.ensures.ordered g.0)
