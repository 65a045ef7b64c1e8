use Rattle.backup_laws.proofs.GapsOfRuns.{runs_gaps_old}
use Rattle.backup_laws.proofs.laws.gaps_of_runs_are_old.Goals as goal

pub returns : goal.returns
returns c = runs_gaps_old
