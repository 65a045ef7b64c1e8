use Rattle.history.proofs.RedoLaws.{tests_change_nothing}
use Rattle.history.proofs.laws.tests_change_nothing.Goals as goal

pub returns : goal.returns
returns c = tests_change_nothing
