use Rattle.backup_label.specs.Laws.{TextsHaveOneLabel}
use Rattle.backup_restore.specs.Directories.{FilesHoldOneStore}
use Rattle.chain_check.specs.Laws.{ListedHaveForms}
use Rattle.chain_laws.specs.Laws.{FullBackupsHoldTheirCopies}
use Rattle.manifest.specs.Laws.{TextsHaveOneManifest}
use Rattle.backup_laws.proofs.LaterRuns.{later_restored}
use Rattle.backup_laws.proofs.Members.{Known}
use Rattle.backup_laws.proofs.Replays.{as_replays}
use Rattle.backup_laws.proofs.RestoredRuns.{runs_restored}
use Rattle.backup_laws.proofs.laws.runs_and_restores_are_replays.Goals as goal

known : TextsHaveOneManifest → TextsHaveOneLabel → FullBackupsHoldTheirCopies → FilesHoldOneStore → ListedHaveForms → Known
known texts labels copies one forms = record { texts = texts; labels = labels; copies = copies; one = one; forms = forms }

pub returns-clause-whole : goal.returns-clause-whole
returns-clause-whole c = runs_restored (known c.manifests_are_read_again.ensures.one c.labels_are_read_in_one_way.ensures.one c.full_backups_are_sound_chains.ensures.held c.directories_hold_one_store.ensures.one c.directories_have_one_answer.ensures.forms)

pub returns-clause-alike : goal.returns-clause-alike
returns-clause-alike c = as_replays (known c.manifests_are_read_again.ensures.one c.labels_are_read_in_one_way.ensures.one c.full_backups_are_sound_chains.ensures.held c.directories_hold_one_store.ensures.one c.directories_have_one_answer.ensures.forms)

pub returns-clause-later : goal.returns-clause-later
returns-clause-later c = later_restored (known c.manifests_are_read_again.ensures.one c.labels_are_read_in_one_way.ensures.one c.full_backups_are_sound_chains.ensures.held c.directories_hold_one_store.ensures.one c.directories_have_one_answer.ensures.forms)
