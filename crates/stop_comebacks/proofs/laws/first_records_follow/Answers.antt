use Rattle.stop_comebacks.proofs.Runs.{first_follow}
use Rattle.stop_comebacks.proofs.laws.first_records_follow.Goals as goal

pub returns : goal.returns
returns c = first_follow
