use Rattle.std.proofs.Common.{leb, rules}
use Rattle.std.proofs.lemmas.List.Sorted.{IsPartitionPoint-from_clause, IsPartitionedBy-leb}
use Rattle.wal_summary.proofs.Cover.{ends_rise}
use Rattle.wal_summary.proofs.kept.ended_by.Goals as goal

pub returns-clause-point : goal.returns-clause-point
returns-clause-point c =
    IsPartitionPoint-from_clause (λ s. leb s.end.0 c.args.place.0) _ _ c.partition_point.ensures.partitioned (IsPartitionedBy-leb (λ s. s.end.0) _ c.args.place.0 (ends_rise 0 c.args.kept.now c.requires)) (λ a r q k. search rules)
