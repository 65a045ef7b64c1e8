use Rattle.wal_summary.proofs.Unique.{one_summary, same_summed_up}
use Rattle.wal_summary.proofs.laws.summaries_are_one.Goals as goal

pub returns-clause-one : goal.returns-clause-one
returns-clause-one c = one_summary

pub returns-clause-same : goal.returns-clause-same
returns-clause-same c = same_summed_up
