use Rattle.stop_comebacks.proofs.Own.{clean_own}
use Rattle.stop_comebacks.proofs.laws.clean_partitions_have_own_files.Goals as goal

pub returns : goal.returns
returns c = clean_own
