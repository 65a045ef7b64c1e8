use Rattle.history.proofs.fuzzy_copies.Restored.{sound_restored, taken_restored}
use Rattle.history.proofs.fuzzy_copies.laws.copies_are_restored.Goals as goal

pub returns-clause-sound : goal.returns-clause-sound
returns-clause-sound c = sound_restored

pub returns-clause-taken : goal.returns-clause-taken
returns-clause-taken c = taken_restored
