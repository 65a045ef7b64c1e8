use Rattle.restart_laws.proofs.Restart.{more_keep, earlier, lost_keep}
use Rattle.restart_laws.proofs.laws.covers_go_on.Goals as goal

pub returns-clause-more : goal.returns-clause-more
returns-clause-more c = more_keep

pub returns-clause-earlier : goal.returns-clause-earlier
returns-clause-earlier c = earlier

pub returns-clause-lost : goal.returns-clause-lost
returns-clause-lost c = lost_keep
