use Rattle.history.proofs.partitions.OwnActs.{own_done, own_tidy}
use Rattle.history.proofs.partitions.laws.own_acts_are_judged_by_parts.Goals as goal

pub returns-clause-done : goal.returns-clause-done
returns-clause-done c = own_done

pub returns-clause-tidy : goal.returns-clause-tidy
returns-clause-tidy c = own_tidy
