use Rattle.chain_commands.proofs.OneRestore.{one_restore}
use Rattle.chain_commands.proofs.laws.restore_has_one_answer.Goals as goal

pub returns : goal.returns
returns c = one_restore c.directories_have_one_answer.ensures.forms c.directories_have_one_answer.ensures.one c.directories_have_one_answer.ensures.apart c.directories_have_one_answer.ensures.first c.chains_have_one_answer.ensures.apart c.chains_have_one_answer.ensures.first c.restores_end_alike.ensures
