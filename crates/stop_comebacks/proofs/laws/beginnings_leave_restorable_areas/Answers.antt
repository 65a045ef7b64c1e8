use Rattle.stop_comebacks.proofs.Begun.{beginnings_leave}
use Rattle.stop_comebacks.proofs.laws.beginnings_leave_restorable_areas.Goals as goal

pub returns : goal.returns
returns g c = beginnings_leave g.V.Vault
