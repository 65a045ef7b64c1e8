use Rattle.journal.proofs.Begun.{found_told, found_are_ended}
use Rattle.journal.proofs.laws.found_is_told.Goals as goal

pub returns-clause-told : goal.returns-clause-told
returns-clause-told c = found_told

pub returns-clause-ended : goal.returns-clause-ended
returns-clause-ended c = found_are_ended
