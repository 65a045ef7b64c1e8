use Rattle.backup_laws.proofs.OverStops.{chains_over_stops}
use Rattle.backup_laws.proofs.laws.completed_chains_are_replays_over_stops.Goals as goal

pub returns : goal.returns
returns c = chains_over_stops c.completed_chains_are_replays.ensures
