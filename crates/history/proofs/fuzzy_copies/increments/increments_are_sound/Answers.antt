use Rattle.history.proofs.fuzzy_copies.Incremental.{increments_sound}
use Rattle.history.proofs.fuzzy_copies.increments.increments_are_sound.Goals as goal

pub returns : goal.returns
returns c = increments_sound
