use Rattle.restart_laws.proofs.Restart.{restarts_whole}
use Rattle.restart_laws.proofs.laws.restarts_are_whole.Goals as goal

pub returns : goal.returns
returns c = restarts_whole
