use Rattle.history.proofs.fuzzy_copies.Restored.{logs_whole, logged_sound}
use Rattle.history.proofs.fuzzy_copies.laws.logs_keep_copies_sound.Goals as goal

pub returns-clause-whole : goal.returns-clause-whole
returns-clause-whole c = logs_whole

pub returns-clause-sound : goal.returns-clause-sound
returns-clause-sound c = logged_sound
