use Rattle.survivor_laws.proofs.One.{one}
use Rattle.survivor_laws.proofs.laws.survivors_are_one.Goals as goal

pub returns : goal.returns
returns c = one
