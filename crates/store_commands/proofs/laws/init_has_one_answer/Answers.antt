use Rattle.store_commands.proofs.OneInit.{one_init}
use Rattle.store_commands.proofs.laws.init_has_one_answer.Goals as goal

pub returns : goal.returns
returns c = one_init
