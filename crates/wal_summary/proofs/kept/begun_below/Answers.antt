use Rattle.std.proofs.Common.{ltb, rules}
use Rattle.std.proofs.lemmas.List.Sorted.{IsPartitionPoint-from_clause, IsPartitionedBy-ltb}
use Rattle.wal_summary.proofs.Cover.{starts_rise}
use Rattle.wal_summary.proofs.kept.begun_below.Goals as goal

pub returns-clause-point : goal.returns-clause-point
returns-clause-point c =
    IsPartitionPoint-from_clause (λ s. ltb s.start.0 c.args.place.0) _ _ c.partition_point.ensures.partitioned (IsPartitionedBy-ltb (λ s. s.start.0) _ c.args.place.0 (starts_rise 0 c.args.kept.now c.requires)) (λ a r q k. search rules)
