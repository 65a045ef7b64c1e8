use Rattle.backup_laws.proofs.CombinedChains.{combined_sound}
use Rattle.backup_laws.proofs.laws.combined_chains_stay_sound.Goals as goal

pub returns : goal.returns
returns c =
    combined_sound
    (record { forms = c.directories_have_one_answer.ensures.forms; member = c.directories_have_one_answer.ensures.one; same = c.combined_directories_hold_the_same.ensures; listed = c.combined_directories_are_chains.ensures.listed; chains = c.combined_directories_are_chains.ensures.accepted; alike = c.chains_are_sound_alike.ensures })
