use Rattle.std.proofs.Common.{◌≡◌, ◌-◌, ◌≤◌, map}
use Rattle.std.specs.List.{range_with_len}
use Rattle.lsn_core.specs.Names.{segment_name_bytes}
use Rattle.wal_follow.proofs.area.segment_names.Given as goal

-- the names of the segments before this one
abbrev pub invariant-loop-number : goal.invariant-loop-number
invariant-loop-number l = record {
  least : 1 ≤ l.number;
  names : l.names.items ≡ map (λ seg. segment_name_bytes seg l.size) (range_with_len 1 (l.number - 1));
}
