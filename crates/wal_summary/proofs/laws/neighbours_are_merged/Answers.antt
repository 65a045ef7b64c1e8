use Rattle.wal_summary.proofs.Ranges.{covering_sums_up, neighbours_merged}
use Rattle.wal_summary.proofs.laws.neighbours_are_merged.Goals as goal

pub returns-clause-merged : goal.returns-clause-merged
returns-clause-merged c = neighbours_merged

pub returns-clause-covering : goal.returns-clause-covering
returns-clause-covering c = covering_sums_up
