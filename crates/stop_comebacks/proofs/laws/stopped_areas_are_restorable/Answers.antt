use Rattle.stop_comebacks.proofs.StoppedNow.{stopped_now}
use Rattle.stop_comebacks.proofs.laws.stopped_areas_are_restorable.Goals as goal

pub returns : goal.returns
returns g c = stopped_now g.V.Vault
