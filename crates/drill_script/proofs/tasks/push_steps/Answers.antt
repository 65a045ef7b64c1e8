use Rattle.std.proofs.Common.{rules, arith}
use Rattle.drill_script.proofs.Steps.{one_more, no_more}
use Rattle.drill_script.proofs.tasks.push_steps.Goals as goal

pub loop-done-preserved : goal.loop-done-preserved
loop-done-preserved c = record {
  least = search rules;
  most = search rules;
  lines = rw c.in_ok-push.ensures (one_more _ _ _ _ _ _ _ _ _ _ _ c.loop-done.invariant.lines (omega arith) (omega arith) c.next.ensures.step c.in_ok-command.ensures);
}

pub returns : goal.returns
returns c = no_more _ _ _ _ _ _ c.loop-done.invariant.lines (omega arith)
