use Rattle.pgbackup_cli.proofs.OneRun.{runs_begin_alike}
use Rattle.pgbackup_cli.proofs.laws.runs_begin_alike.Goals as goal

pub returns : goal.returns
returns c = runs_begin_alike
