use Rattle.crew.proofs.Joined.{crew_joined}
use Rattle.crew.proofs.laws.crew_is_joined.Goals as goal

pub returns : goal.returns
returns c = crew_joined
