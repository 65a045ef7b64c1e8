use Rattle.backup_label.proofs.OneReading.{one_label, not_refused, one_refused}
use Rattle.backup_label.proofs.laws.labels_are_read_in_one_way.Goals as goal

pub returns-clause-one : goal.returns-clause-one
returns-clause-one c = one_label

pub returns-clause-apart : goal.returns-clause-apart
returns-clause-apart c = not_refused

pub returns-clause-first : goal.returns-clause-first
returns-clause-first c = one_refused
