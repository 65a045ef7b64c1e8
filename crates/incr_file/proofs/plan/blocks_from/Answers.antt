use Rattle.std.proofs.Common.{rules, ℕ, ◌∙◌, subst, sym}
use Rattle.std.specs.Prelude.{nat_lt, nat_le}
use Rattle.std.specs.List.Sorted.{IsStrictlyIncreasing}
use Rattle.std.proofs.lemmas.List.{take_rest}
use Rattle.std.proofs.lemmas.List.Kept.{IsStrictlyIncreasing-filter}
use Rattle.std.proofs.lemmas.List.Sorted.{IsPartitionPoint-from_clause, IsPartitionedBy-ltb}
use Rattle.incr_file.proofs.Rising.{non_falling, from_back}
use Rattle.incr_file.proofs.plan.blocks_from.Goals as goal

pub returns-clause-from : goal.returns-clause-from
returns-clause-from c =
    take_rest c.args.blocks.now c.partition_point.result
    ∙ from_back c.args.blocks.now c.args.first c.partition_point.result c.partition_point.ensures.bound
    (IsPartitionPoint-from_clause (λ y. nat_lt y c.args.first) c.args.blocks.now c.partition_point.result c.partition_point.ensures.partitioned
    (IsPartitionedBy-ltb (λ (y : ℕ). y) c.args.blocks.now c.args.first (non_falling c.args.blocks.now c.requires)) (λ a r f k. search rules))

pub returns-clause-rising : goal.returns-clause-rising
returns-clause-rising c = subst IsStrictlyIncreasing (sym (returns-clause-from c)) (IsStrictlyIncreasing-filter (λ b. nat_le c.args.first b) c.args.blocks.now c.requires)
