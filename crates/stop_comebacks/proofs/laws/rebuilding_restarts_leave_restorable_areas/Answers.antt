use Rattle.stop_comebacks.proofs.Restarted.{restarts_leave}
use Rattle.stop_comebacks.proofs.laws.rebuilding_restarts_leave_restorable_areas.Goals as goal

pub returns : goal.returns
returns g c = restarts_leave g.V.Vault
