use Rattle.std.proofs.Common.{take}
use Rattle.store_core.specs.State.{State}
use Rattle.core_machine.specs.Shown.{Shows, IsReached}
use Rattle.core_machine.proofs.Taking.{HasRun}
use Rattle.core_machine.proofs.machine.Machine.run_steps.Given as goal

-- the first steps are taken, and it is reached by them
abbrev pub invariant-loop-at : goal.invariant-loop-at
invariant-loop-at l = (s : State) → IsReached s → Shows l.fn.self s → HasRun l.self s (take l.at l.steps) l.replies.items
