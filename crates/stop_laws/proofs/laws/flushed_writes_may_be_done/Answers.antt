use Rattle.stop_laws.proofs.Written.{may_be_done}
use Rattle.stop_laws.proofs.laws.flushed_writes_may_be_done.Goals as goal

pub returns : goal.returns
returns c = may_be_done
