use Rattle.comeback_laws.proofs.Back.{restarts}
use Rattle.comeback_laws.proofs.laws.restarts_hold_whole.Goals as goal

pub returns : goal.returns
returns g c = restarts g.V.Vault
