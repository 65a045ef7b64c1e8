use Rattle.stop_comebacks.proofs.Own.{keep_own}
use Rattle.stop_comebacks.proofs.laws.calls_keep_own_files.Goals as goal

pub returns : goal.returns
returns c = keep_own
