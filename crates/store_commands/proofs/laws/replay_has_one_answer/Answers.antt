use Rattle.store_commands.proofs.OneReplay.{one_replay}
use Rattle.store_commands.proofs.laws.replay_has_one_answer.Goals as goal

pub returns : goal.returns
returns c = one_replay
