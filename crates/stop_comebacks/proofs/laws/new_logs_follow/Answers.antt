use Rattle.stop_comebacks.proofs.Runs.{new_follows}
use Rattle.stop_comebacks.proofs.laws.new_logs_follow.Goals as goal

pub returns : goal.returns
returns c = new_follows
