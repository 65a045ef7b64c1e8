use Rattle.wal_summary.proofs.Ranges.{logs_sum_up}
use Rattle.wal_summary.proofs.laws.logs_are_summed_up.Goals as goal

pub returns : goal.returns
returns c = logs_sum_up
