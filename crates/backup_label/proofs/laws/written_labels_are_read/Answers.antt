use Rattle.backup_label.proofs.Times.{time_ends}
use Rattle.backup_label.proofs.Written.{written}
use Rattle.backup_label.proofs.laws.written_labels_are_read.Goals as goal

pub returns-clause-written : goal.returns-clause-written
returns-clause-written c = written

pub returns-clause-times : goal.returns-clause-times
returns-clause-times c = time_ends
