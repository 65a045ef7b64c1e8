use Rattle.backup_sending.proofs.Marks.{backups_end_behind, checkpoints_have_redo_points, redo_points_are_own}
use Rattle.backup_sending.proofs.laws.copies_are_seen.Goals as goal

pub returns-clause-starts : goal.returns-clause-starts
returns-clause-starts c = checkpoints_have_redo_points

pub returns-clause-ends : goal.returns-clause-ends
returns-clause-ends c = backups_end_behind

pub returns-clause-own : goal.returns-clause-own
returns-clause-own c = redo_points_are_own
