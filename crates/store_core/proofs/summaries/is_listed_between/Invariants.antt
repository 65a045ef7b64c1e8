use Rattle.std.proofs.Common.{◌≡◌, map, take}
use Rattle.store_core.specs.Increments.{table_between}
use Rattle.store_core.specs.InMemory.{published_in}
use Rattle.store_core.proofs.summaries.is_listed_between.Given as goal

-- what the first summaries say
abbrev pub invariant-loop-sum : goal.invariant-loop-sum
invariant-loop-sum l =
    l.listed ≡ (table_between (map published_in (take l.sum-index l.sums)) l.from.0 l.to.0).listed l.fork l.block
