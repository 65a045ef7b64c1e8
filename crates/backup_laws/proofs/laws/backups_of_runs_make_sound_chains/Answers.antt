use Rattle.chain_laws.specs.Laws.{FullBackupsAreSoundChains, IncrementsExtendSoundChains, SoundChainsStaySound}
use Rattle.shared_summaries.specs.Laws.{AnswersSumUp}
use Rattle.backup_laws.proofs.ChainRuns.{KnownOfChains, fulls_sound, incrs_extend, runs_keep}
use Rattle.backup_laws.proofs.laws.backups_of_runs_make_sound_chains.Goals as goal

known : IncrementsExtendSoundChains → FullBackupsAreSoundChains → SoundChainsStaySound → AnswersSumUp → KnownOfChains
known extend full later sums = record { extend = extend; full = full; later = later; sums = sums }

pub returns-clause-full : goal.returns-clause-full
returns-clause-full c = fulls_sound (known c.increments_extend_sound_chains.ensures c.full_backups_are_sound_chains.ensures.sound c.sound_chains_stay_sound.ensures c.answers_sum_up.ensures.up)

pub returns-clause-incremental : goal.returns-clause-incremental
returns-clause-incremental c = incrs_extend (known c.increments_extend_sound_chains.ensures c.full_backups_are_sound_chains.ensures.sound c.sound_chains_stay_sound.ensures c.answers_sum_up.ensures.up)

pub returns-clause-kept : goal.returns-clause-kept
returns-clause-kept c = runs_keep (known c.increments_extend_sound_chains.ensures c.full_backups_are_sound_chains.ensures.sound c.sound_chains_stay_sound.ensures c.answers_sum_up.ensures.up)
