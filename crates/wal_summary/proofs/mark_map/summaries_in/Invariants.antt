use Rattle.wal_summary.proofs.Sums.{GoneThrough}
use Rattle.wal_summary.proofs.mark_map.summaries_in.Given as goal

abbrev pub invariant-loop-fork : goal.invariant-loop-fork
invariant-loop-fork l = GoneThrough l.forks l.fork-iterator l.sums.items
