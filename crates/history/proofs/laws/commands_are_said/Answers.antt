use Rattle.history.proofs.WrittenLaws.{commands_done, commands_said}
use Rattle.history.proofs.laws.commands_are_said.Goals as goal

pub returns-clause-done : goal.returns-clause-done
returns-clause-done c = commands_done

pub returns-clause-said : goal.returns-clause-said
returns-clause-said c = commands_said
