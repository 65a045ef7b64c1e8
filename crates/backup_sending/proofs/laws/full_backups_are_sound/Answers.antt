use Rattle.backup_sending.proofs.Sound.{full_sound}
use Rattle.backup_sending.proofs.laws.full_backups_are_sound.Goals as goal

pub returns : goal.returns
returns c = full_sound
