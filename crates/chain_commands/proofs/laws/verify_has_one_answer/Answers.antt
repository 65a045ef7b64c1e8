use Rattle.chain_commands.proofs.OneVerify.{one_verify}
use Rattle.chain_commands.proofs.laws.verify_has_one_answer.Goals as goal

pub returns : goal.returns
returns c = one_verify c.directories_have_one_answer.ensures.one c.directories_have_one_answer.ensures.apart c.directories_have_one_answer.ensures.first
