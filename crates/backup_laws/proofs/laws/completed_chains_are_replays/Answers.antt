use Rattle.backup_laws.proofs.ChainRestored.{chains_restored}
use Rattle.backup_laws.proofs.laws.completed_chains_are_replays.Goals as goal

pub returns : goal.returns
returns c =
    chains_restored
    (record { texts = c.manifests_are_read_again.ensures.one; labels = c.labels_are_read_in_one_way.ensures.one; copies = c.full_backups_are_sound_chains.ensures.held; one = c.directories_hold_one_store.ensures.one; forms = c.directories_have_one_answer.ensures.forms })
    (record { extend = c.increments_extend_sound_chains.ensures; full = c.full_backups_are_sound_chains.ensures.sound; later = c.sound_chains_stay_sound.ensures; sums = c.answers_sum_up.ensures.up })
    (record { forms = c.directories_have_one_answer.ensures.forms; member = c.directories_have_one_answer.ensures.one; same = c.combined_directories_hold_the_same.ensures; listed = c.combined_directories_are_chains.ensures.listed; chains = c.combined_directories_are_chains.ensures.accepted; alike = c.chains_are_sound_alike.ensures })
    (record { member = c.directories_have_one_answer.ensures.one; stands = c.merged_directories_stand_for_series.ensures; listed = c.merged_directories_are_members.ensures.listed })
