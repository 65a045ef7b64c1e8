use Rattle.wal_summary.proofs.Ranges.{merge_is_summary}
use Rattle.wal_summary.proofs.laws.merges_sum_up_both.Goals as goal

pub returns : goal.returns
returns c = merge_is_summary
