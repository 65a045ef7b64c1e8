use Rattle.std.proofs.Common.{◌≡◌, map}
use Rattle.store_core.specs.Increments.{table_between, listed_blocks}
use Rattle.store_core.specs.InMemory.{published_in}
use Rattle.store_core.proofs.increment.listed_blocks.Given as goal

-- the first blocks are looked at
abbrev pub invariant-loop-block : goal.invariant-loop-block
invariant-loop-block l =
    l.list.items ≡ listed_blocks (table_between (map published_in l.sums) l.from.0 l.to.0) l.fork l.block
