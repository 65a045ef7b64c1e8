use Rattle.backup_laws.proofs.Drilled.{drills_answered, drills_replayed}
use Rattle.backup_laws.proofs.laws.drills_are_replays.Goals as goal

pub returns-clause-replays : goal.returns-clause-replays
returns-clause-replays c = drills_replayed c.completed_chains_are_replays.ensures

pub returns-clause-backups : goal.returns-clause-backups
returns-clause-backups c = drills_answered
