use Rattle.crew.proofs.RunLaws.{refused_by_memory}
use Rattle.crew.proofs.laws.taken_or_refused.Goals as goal

pub returns : goal.returns
returns c = refused_by_memory
