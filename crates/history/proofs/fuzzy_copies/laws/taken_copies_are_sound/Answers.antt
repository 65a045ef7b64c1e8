use Rattle.history.proofs.fuzzy_copies.Taken.{taken_sound}
use Rattle.history.proofs.fuzzy_copies.laws.taken_copies_are_sound.Goals as goal

pub returns : goal.returns
returns c = taken_sound
