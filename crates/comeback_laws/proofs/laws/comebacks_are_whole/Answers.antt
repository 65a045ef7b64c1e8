use Rattle.comeback_laws.proofs.Wholes.{comebacks}
use Rattle.comeback_laws.proofs.laws.comebacks_are_whole.Goals as goal

pub returns : goal.returns
returns g c = comebacks g.V.Vault
