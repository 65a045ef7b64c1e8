use Rattle.lsn_core.proofs.LsnTexts.{printed, one_lsn}
use Rattle.lsn_core.proofs.laws.lsns_are_read_again.Goals as goal

pub returns-clause-printed : goal.returns-clause-printed
returns-clause-printed c = printed

pub returns-clause-one : goal.returns-clause-one
returns-clause-one c = one_lsn
