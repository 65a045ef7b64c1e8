use Rattle.backup_laws.proofs.Telling.{runs_tell}
use Rattle.backup_laws.proofs.laws.runs_tell_throughout.Goals as goal

pub returns : goal.returns
returns c = runs_tell
