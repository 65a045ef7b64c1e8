use Rattle.backup_laws.proofs.SoundWals.{new_sound, left_sound}
use Rattle.backup_laws.proofs.success.wals_are_sound.Goals as goal

pub returns-clause-new : goal.returns-clause-new
returns-clause-new c = new_sound

pub returns-clause-left : goal.returns-clause-left
returns-clause-left c = left_sound
