use Rattle.crew.proofs.Kept.{backups_told}
use Rattle.crew.proofs.laws.answers_tell_backups.Goals as goal

pub returns : goal.returns
returns c = backups_told
