use Rattle.scripts.proofs.OneAnswer.{one_answer}
use Rattle.scripts.proofs.laws.script_has_one_answer.Goals as goal

pub returns : goal.returns
returns c = one_answer
