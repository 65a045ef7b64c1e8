use Rattle.stop_machine.proofs.Safe.{steps_safe, runs_safe}
use Rattle.stop_machine.proofs.laws.areas_are_safe.Goals as goal

pub returns-clause-step : goal.returns-clause-step
returns-clause-step c = steps_safe

pub returns-clause-run : goal.returns-clause-run
returns-clause-run c = runs_safe
