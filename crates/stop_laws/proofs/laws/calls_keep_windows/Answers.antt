use Rattle.stop_laws.proofs.Written.{keep_windows}
use Rattle.stop_laws.proofs.laws.calls_keep_windows.Goals as goal

pub returns : goal.returns
returns c = keep_windows
