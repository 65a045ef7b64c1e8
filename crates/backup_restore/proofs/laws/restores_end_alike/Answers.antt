-- Restores of the same files are done, or refused for one reason.
use Rattle.backup_restore.proofs.EndAlike.{end_alike}
use Rattle.backup_restore.proofs.laws.restores_end_alike.Goals as goal

pub returns : goal.returns
returns c = end_alike
