use Rattle.stop_laws.proofs.Agreed.{agree}
use Rattle.stop_laws.proofs.laws.left_stores_agree.Goals as goal

pub returns : goal.returns
returns c = agree
