use Rattle.std.proofs.Common.{rules, ℕ}
use Rattle.std.specs.Prelude.{nat_lt}
use Rattle.std.proofs.lemmas.List.Sorted.{IsPartitionPoint-from_clause, IsPartitionedBy-ltb}
use Rattle.incr_file.proofs.Rising.{non_falling, below_front}
use Rattle.incr_file.proofs.plan.blocks_below.Goals as goal

pub returns : goal.returns
returns c =
    below_front c.args.blocks.now c.args.end c.partition_point.result c.partition_point.ensures.bound
    (IsPartitionPoint-from_clause (λ y. nat_lt y c.args.end) c.args.blocks.now c.partition_point.result c.partition_point.ensures.partitioned
    (IsPartitionedBy-ltb (λ (y : ℕ). y) c.args.blocks.now c.args.end (non_falling c.args.blocks.now c.requires)) (λ a r f k. search rules))
