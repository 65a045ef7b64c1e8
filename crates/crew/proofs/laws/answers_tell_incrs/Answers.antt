use Rattle.crew.proofs.Increased.{incrs_told}
use Rattle.crew.proofs.laws.answers_tell_incrs.Goals as goal

pub returns : goal.returns
returns c = incrs_told
