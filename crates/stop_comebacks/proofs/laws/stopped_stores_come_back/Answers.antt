use Rattle.stop_comebacks.proofs.Areas.{come_back}
use Rattle.stop_comebacks.proofs.laws.stopped_stores_come_back.Goals as goal

pub returns : goal.returns
returns g c = come_back g.V.Vault
