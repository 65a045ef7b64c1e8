use Rattle.backup_laws.proofs.DoneCommands.{stores_made, wals_replayed, streams_followed, ranges_told}
use Rattle.backup_laws.proofs.DoneRuns.{scripts_run}
use Rattle.backup_laws.proofs.success.stores_are_served.Goals as goal

pub returns-clause-made : goal.returns-clause-made
returns-clause-made c = stores_made

pub returns-clause-run : goal.returns-clause-run
returns-clause-run c = scripts_run

pub returns-clause-replayed : goal.returns-clause-replayed
returns-clause-replayed c = wals_replayed

pub returns-clause-followed : goal.returns-clause-followed
returns-clause-followed c = streams_followed

pub returns-clause-told : goal.returns-clause-told
returns-clause-told c = ranges_told
