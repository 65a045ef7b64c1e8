use Rattle.history.proofs.fuzzy_copies.SummedAlike.{summed_alike}
use Rattle.history.proofs.fuzzy_copies.TidyLogs.{logs_tidy}
use Rattle.history.proofs.fuzzy_copies.increments.logs_are_summed_alike.Goals as goal

pub returns-clause-alike : goal.returns-clause-alike
returns-clause-alike c = summed_alike

pub returns-clause-tidy : goal.returns-clause-tidy
returns-clause-tidy c = logs_tidy
