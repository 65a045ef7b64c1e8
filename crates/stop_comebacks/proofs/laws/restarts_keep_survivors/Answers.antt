use Rattle.stop_comebacks.proofs.KeptSurvivors.{keep_survivors}
use Rattle.stop_comebacks.proofs.laws.restarts_keep_survivors.Goals as goal

pub returns : goal.returns
returns g c = keep_survivors g.V.Vault
