-- A restore of a sound copy makes what a replay of the whole WAL makes.
use Rattle.backup_restore.proofs.Completed.{sound_completed, restores_replay}
use Rattle.backup_restore.proofs.laws.sound_copies_are_completed.Goals as goal

pub returns-clause-completed : goal.returns-clause-completed
returns-clause-completed c = sound_completed

pub returns-clause-replays : goal.returns-clause-replays
returns-clause-replays c = restores_replay
