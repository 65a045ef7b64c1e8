use Rattle.chain_commands.proofs.OneCombine.{one_merge}
use Rattle.chain_commands.proofs.laws.merge_has_one_answer.Goals as goal

pub returns : goal.returns
returns c = one_merge c.directories_have_one_answer.ensures.forms c.directories_have_one_answer.ensures.one c.directories_have_one_answer.ensures.apart c.directories_have_one_answer.ensures.first c.series_have_one_answer.ensures.apart c.series_have_one_answer.ensures.first
