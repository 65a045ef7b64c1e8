use Rattle.backup_laws.proofs.DoneCombines.{chains_combined, series_merged}
use Rattle.backup_laws.proofs.DoneCommands.{backups_verified}
use Rattle.backup_laws.proofs.success.listed_backups_are_taken.Goals as goal

pub returns-clause-verified : goal.returns-clause-verified
returns-clause-verified c = backups_verified c.directories_have_one_answer.ensures.apart

pub returns-clause-combined : goal.returns-clause-combined
returns-clause-combined c =
    chains_combined (record { member = c.directories_have_one_answer.ensures.one; forms = c.directories_have_one_answer.ensures.forms; listed = c.directories_have_one_answer.ensures.apart; accepted = c.chains_have_one_answer.ensures.apart })

pub returns-clause-merged : goal.returns-clause-merged
returns-clause-merged c =
    series_merged (record { member = c.directories_have_one_answer.ensures.one; forms = c.directories_have_one_answer.ensures.forms; listed = c.directories_have_one_answer.ensures.apart; accepted = c.series_have_one_answer.ensures.apart })
