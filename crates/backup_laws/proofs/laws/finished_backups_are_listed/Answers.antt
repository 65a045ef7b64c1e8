use Rattle.incr_file.specs.Laws.{PlannedHeadsAreWritten, WrittenHeadsAreRead}
use Rattle.backup_laws.proofs.AnsweredBackups.{answered_listed, answered_verified}
use Rattle.backup_laws.proofs.ListedFiles.{finished_listed}
use Rattle.backup_laws.proofs.ListedIncrements.{KnownOfHeads, increments_listed}
use Rattle.backup_laws.proofs.laws.finished_backups_are_listed.Goals as goal

known : WrittenHeadsAreRead → PlannedHeadsAreWritten → KnownOfHeads
known read written = record { read = read; written = written }

pub returns-clause-full : goal.returns-clause-full
returns-clause-full c = finished_listed

pub returns-clause-incremental : goal.returns-clause-incremental
returns-clause-incremental c = increments_listed (known c.heads_are_read_as_written.ensures.written c.plans_may_be_written.ensures.written)

pub returns-clause-answered : goal.returns-clause-answered
returns-clause-answered c = answered_listed (known c.heads_are_read_as_written.ensures.written c.plans_may_be_written.ensures.written)

pub returns-clause-verified : goal.returns-clause-verified
returns-clause-verified c = answered_verified (known c.heads_are_read_as_written.ensures.written c.plans_may_be_written.ensures.written) (record { member = c.directories_have_one_answer.ensures.one; listed = c.directories_have_one_answer.ensures.apart })
