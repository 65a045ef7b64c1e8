use Rattle.backup_laws.proofs.ScriptNames.{names_are_lines}
use Rattle.backup_laws.proofs.WalsLeft.{inputs_run}
use Rattle.backup_laws.proofs.laws.runs_of_inputs_are_runs.Goals as goal

pub returns-clause-run : goal.returns-clause-run
returns-clause-run c = inputs_run

pub returns-clause-lines : goal.returns-clause-lines
returns-clause-lines c = names_are_lines
