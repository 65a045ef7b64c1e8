use Rattle.wal_reader.specs.Settings.{IsLeastOf}
use Rattle.wal_reader.proofs.WalNames.{IsNamedBefore}
use Rattle.wal_reader.proofs.names.least_segment.Given as goal

-- the least segment of the names so far
abbrev pub invariant-loop-name : goal.invariant-loop-name
invariant-loop-name l = IsLeastOf (IsNamedBefore l.size l.names l.name-index) l.least
