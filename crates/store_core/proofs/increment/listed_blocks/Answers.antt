use Rattle.std.proofs.Common.{map, ap, ◌∙◌}
use Rattle.store_core.specs.Increments.{table_between}
use Rattle.store_core.specs.InMemory.{published_in}
use Rattle.store_core.proofs.Overlaid.{block_taken, block_left, listed_rising}
use Rattle.store_core.proofs.increment.listed_blocks.Goals as goal
use Rattle.store_core.proofs.increment.listed_blocks.Goals.{then-is_listed_between+in_ok-push, else-is_listed_between}

pub loop-block-preserved : goal.loop-block-preserved
loop-block-preserved c =
    let table = table_between (map published_in c.args.sums.now) c.args.from.0 c.args.to.0 in
    elim c.if-is_listed_between.branch [
      | then-is_listed_between+in_ok-push w ↦
          block_taken table c.args.fork.now c.loop-block.block c.is_listed_between.result c.loop-block.list.items c.if-is_listed_between.list.items c.is_listed_between.ensures w.if-is_listed_between.true c.loop-block.invariant
          (ap (λ (v : _). v.items) w.list-is ∙ w.in_ok-push.ensures.items)
      | else-is_listed_between w ↦
          ap (λ (v : _). v.items) w.list-is
          ∙ block_left table c.args.fork.now c.loop-block.block c.is_listed_between.result c.loop-block.list.items c.is_listed_between.ensures w.if-is_listed_between.false c.loop-block.invariant
    ]

pub returns-clause-rising : goal.returns-clause-rising
returns-clause-rising c =
    listed_rising (table_between (map published_in c.args.sums.now) c.args.from.0 c.args.to.0) c.args.fork.now c.loop-block.block c.loop-block.list.items c.loop-block.invariant
