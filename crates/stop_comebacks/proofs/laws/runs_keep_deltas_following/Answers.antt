use Rattle.stop_comebacks.proofs.Runs.{runs_follow}
use Rattle.stop_comebacks.proofs.laws.runs_keep_deltas_following.Goals as goal

pub returns : goal.returns
returns c = runs_follow
