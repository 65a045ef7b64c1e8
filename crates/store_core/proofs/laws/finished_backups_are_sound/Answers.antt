use Rattle.store_core.proofs.Holds.{backups_sound}
use Rattle.store_core.proofs.laws.finished_backups_are_sound.Goals as goal

pub returns : goal.returns
returns c = backups_sound
