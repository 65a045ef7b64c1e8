use Rattle.chain_commands.proofs.OneCombine.{one_combine}
use Rattle.chain_commands.proofs.laws.combine_has_one_answer.Goals as goal

pub returns : goal.returns
returns c = one_combine c.directories_have_one_answer.ensures.forms c.directories_have_one_answer.ensures.one c.directories_have_one_answer.ensures.apart c.directories_have_one_answer.ensures.first c.chains_have_one_answer.ensures.apart c.chains_have_one_answer.ensures.first
