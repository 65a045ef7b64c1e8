-- Segment files hold one store at most, and alike ones the same.
use Rattle.backup_restore.proofs.Directories.{one_store, alike_hold}
use Rattle.backup_restore.proofs.laws.directories_hold_one_store.Goals as goal

pub returns-clause-one : goal.returns-clause-one
returns-clause-one c = one_store

pub returns-clause-alike : goal.returns-clause-alike
returns-clause-alike c = alike_hold
