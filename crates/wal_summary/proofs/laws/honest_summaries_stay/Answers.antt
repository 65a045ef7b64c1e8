use Rattle.wal_summary.proofs.Ranges.{honesty_kept}
use Rattle.wal_summary.proofs.laws.honest_summaries_stay.Goals as goal

pub returns : goal.returns
returns c = honesty_kept
