use Rattle.journal.proofs.Parting.{kinds_told}
use Rattle.journal.proofs.laws.parts_tell_kinds.Goals as goal

pub returns : goal.returns
returns c = kinds_told
