use Rattle.history.proofs.fuzzy_copies.Longer.{sound_later}
use Rattle.history.proofs.fuzzy_copies.laws.sound_copies_stay_sound.Goals as goal

pub returns : goal.returns
returns c = sound_later
