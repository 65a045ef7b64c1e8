use Rattle.stop_laws.proofs.Windows.{have_windows}
use Rattle.stop_laws.proofs.laws.histories_have_windows.Goals as goal

pub returns : goal.returns
returns c = have_windows
