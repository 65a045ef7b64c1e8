-- One fork behind the other.
use Rattle.std.proofs.Common.{ap, arith}
use Rattle.recovery.specs.declared.tally.Tally.{Tally}
use Rattle.restart_areas.proofs.Counted.{count_start, count_step, count_end}
use Rattle.restart_areas.proofs.counting.count_list.Goals as goal

pub loop-one-init : goal.loop-one-init
loop-one-init c = count_start c.args.list.now c.none-tally.result (ap (λ (t : Tally). t.forks) c.none-tally.ensures) (ap (λ (t : Tally). t.pages) c.none-tally.ensures)

pub loop-one-preserved : goal.loop-one-preserved
loop-one-preserved c =
    count_step c.args.list.now c.loop-one.one-index c.one-item.result c.loop-one.tally c.recount.new.self c.loop-one-test.true c.one-item.is
    (omega (arith, c.in_ok-recount.ensures.forks)) (omega (arith, c.in_ok-recount.ensures.pages)) c.loop-one.invariant

pub returns : goal.returns
returns c = count_end c.args.list.now c.loop-one.one-index c.loop-one.tally c.loop-one-test.false c.loop-one.invariant
