use Rattle.store_core.proofs.Holds.{backups_stay}
use Rattle.store_core.proofs.laws.finished_backups_stay.Goals as goal

pub returns : goal.returns
returns c = backups_stay
