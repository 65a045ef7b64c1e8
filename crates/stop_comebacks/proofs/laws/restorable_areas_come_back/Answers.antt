use Rattle.stop_comebacks.proofs.ComeBack.{areas_come_back}
use Rattle.stop_comebacks.proofs.laws.restorable_areas_come_back.Goals as goal

pub returns : goal.returns
returns g c = areas_come_back g.V.Vault
