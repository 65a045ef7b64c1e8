use Rattle.stop_areas.proofs.Calls.{puts_keep, makes_keep, cuts_keep, removals_keep}
use Rattle.stop_areas.proofs.laws.calls_keep_what_stays.Goals as goal

pub returns-clause-put : goal.returns-clause-put
returns-clause-put c = puts_keep

pub returns-clause-make : goal.returns-clause-make
returns-clause-make c = makes_keep

pub returns-clause-cut : goal.returns-clause-cut
returns-clause-cut c = cuts_keep

pub returns-clause-removal : goal.returns-clause-removal
returns-clause-removal c = removals_keep
