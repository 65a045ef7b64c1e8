use Rattle.crew.proofs.RunLaws.{answers_hold}
use Rattle.crew.proofs.laws.answers_stay.Goals as goal

pub returns : goal.returns
returns c = answers_hold
