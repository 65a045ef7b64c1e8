use Rattle.stop_comebacks.proofs.Open.{open_stopped}
use Rattle.stop_comebacks.proofs.laws.open_stores_are_stopped.Goals as goal

pub returns : goal.returns
returns g c = open_stopped g.V.Vault
