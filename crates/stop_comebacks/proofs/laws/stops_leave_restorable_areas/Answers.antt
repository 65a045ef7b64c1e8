use Rattle.stop_comebacks.proofs.Areas.{restorable}
use Rattle.stop_comebacks.proofs.laws.stops_leave_restorable_areas.Goals as goal

pub returns : goal.returns
returns g c = restorable g.V.Vault
