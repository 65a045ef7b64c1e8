use Rattle.core_machine.proofs.Taking.{run_begins, run_on, run_ends}
use Rattle.core_machine.proofs.machine.Machine.run_steps.Goals as goal

pub loop-at-init : goal.loop-at-init
loop-at-init c s reached shown = run_begins c.args.self.now s c.new-replies.result.items reached shown c.new-replies.ensures.items

pub loop-at-preserved : goal.loop-at-preserved
loop-at-preserved c s reached shown =
    run_on c.loop-at.self c.step.new.self s c.args.steps.now c.loop-at.at c.index-steps-at.result c.loop-at.replies.items c.push.new.self.items c.in_ok-reply.reply c.loop-at-test.true c.index-steps-at.is c.know_pages.ensures (c.loop-at.invariant s reached shown) c.in_ok-reply.ensures c.in_ok-push.ensures.items

pub returns : goal.returns
returns c s reached shown = run_ends c.loop-at.self s c.args.steps.now c.loop-at.at c.loop-at.replies.items c.loop-at-test.false (c.loop-at.invariant s reached shown)
