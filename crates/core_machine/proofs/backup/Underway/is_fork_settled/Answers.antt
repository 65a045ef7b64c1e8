use Rattle.std.proofs.Common.{sym, map, ◌∙◌}
use Rattle.store_core.specs.Steps.{is_settled}
use Rattle.core_machine.specs.Inside.{underway_in}
use Rattle.store_core.specs.InMemory.{published_in}
use Rattle.store_core.proofs.Stored.{blocks_more}
use Rattle.core_machine.proofs.backup.Underway.is_fork_settled.Goals as goal

pub loop-block-preserved : goal.loop-block-preserved
loop-block-preserved c =
    blocks_more (is_settled c.args.relseg (map published_in c.args.sums.now) (underway_in c.args.self.now)) c.args.fork.now c.loop-block.block c.blocks_in-count.result c.in_ok-number.field-0 _ c.loop-block-test.true c.in_ok-number.ensures
    (sym c.in_ok-is_settled.ensures ∙ c.if-not-branch.false) c.loop-block.invariant
