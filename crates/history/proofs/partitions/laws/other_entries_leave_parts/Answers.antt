use Rattle.history.proofs.partitions.Folds.{others_leave, passed_over}
use Rattle.history.proofs.partitions.laws.other_entries_leave_parts.Goals as goal

pub returns-clause-left : goal.returns-clause-left
returns-clause-left c = others_leave

pub returns-clause-passed : goal.returns-clause-passed
returns-clause-passed c = passed_over
