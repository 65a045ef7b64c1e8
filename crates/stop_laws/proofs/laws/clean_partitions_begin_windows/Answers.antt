use Rattle.stop_laws.proofs.Begun.{begin_windows}
use Rattle.stop_laws.proofs.laws.clean_partitions_begin_windows.Goals as goal

pub returns : goal.returns
returns c = begin_windows
