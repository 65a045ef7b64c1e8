-- Names stand.
use Rattle.stream_laws.proofs.NamesStand.{names_stand}
use Rattle.stream_laws.proofs.names_stand.Goals as goal

pub returns : goal.returns
returns c = names_stand
