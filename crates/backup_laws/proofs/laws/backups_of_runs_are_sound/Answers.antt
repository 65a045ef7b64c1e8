use Rattle.backup_laws.proofs.SoundRuns.{runs_sound}
use Rattle.backup_laws.proofs.laws.backups_of_runs_are_sound.Goals as goal

pub returns : goal.returns
returns c = runs_sound
