use Rattle.drill_script.proofs.Runnable.{drilled_is_runnable}
use Rattle.drill_script.proofs.laws.drilled_is_a_script.Goals as goal

pub returns : goal.returns
returns c = drilled_is_runnable
