use Rattle.std.proofs.Common.{◌≡◌, ◌-◌, ◌≤◌}
use Rattle.wal_pages.specs.Spread.{spread_from}
use Rattle.wal_pages.proofs.cutting.spread_pages.Given as goal

abbrev pub invariant-loop-at : goal.invariant-loop-at
invariant-loop-at l = record {
  from : l.before ≤ l.at;
  to : l.at ≤ l.end;
  spread : l.bytes.items ≡ spread_from l.of.segment l.of.system l.first l.flat l.before
      (l.at - l.before);
}

abbrev pub decreases-loop-at : goal.decreases-loop-at
decreases-loop-at l = l.end - l.at
