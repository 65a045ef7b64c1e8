use Rattle.stop_comebacks.proofs.Fitting.{written_fit}
use Rattle.stop_comebacks.proofs.laws.written_records_fit.Goals as goal

pub returns : goal.returns
returns c = written_fit
