use Rattle.comeback_laws.proofs.Tallies.{counts_are_tallies}
use Rattle.comeback_laws.proofs.laws.counts_are_tallies.Goals as goal

pub returns : goal.returns
returns g c = counts_are_tallies g.V.Vault
