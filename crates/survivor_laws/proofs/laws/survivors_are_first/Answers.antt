use Rattle.survivor_laws.proofs.First.{first}
use Rattle.survivor_laws.proofs.laws.survivors_are_first.Goals as goal

pub returns : goal.returns
returns c = first
