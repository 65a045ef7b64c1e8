use Rattle.store_commands.proofs.OneFollow.{one_follow}
use Rattle.store_commands.proofs.laws.follow_has_one_answer.Goals as goal

pub returns : goal.returns
returns c = one_follow
