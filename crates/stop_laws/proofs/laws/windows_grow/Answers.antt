use Rattle.stop_laws.proofs.Windows.{grow}
use Rattle.stop_laws.proofs.laws.windows_grow.Goals as goal

pub returns : goal.returns
returns c = grow
