use Rattle.journal.proofs.Parting.{own_comes_next}
use Rattle.journal.proofs.Follows.{parts_follow}
use Rattle.journal.proofs.laws.own_acts_may_come_next.Goals as goal

pub returns-clause-next : goal.returns-clause-next
returns-clause-next c = own_comes_next

pub returns-clause-follow : goal.returns-clause-follow
returns-clause-follow c = parts_follow
