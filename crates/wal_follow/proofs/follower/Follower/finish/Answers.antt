-- What is found in the window stands there in the stream.
use Rattle.std.proofs.Common.{Result, Ok, Err, subst}
use Rattle.lsn_core.specs.declared.lsn.Lsn.{Lsn}
use Rattle.wal_follow.specs.declared.fault.FollowFault.{FollowFault}
use Rattle.wal_follow.specs.Inside.{AsksFound}
use Rattle.wal_follow.proofs.Behind.{asked_there}
use Rattle.wal_follow.proofs.follower.Follower.finish.Goals as goal

pub returns-in-Ok-clause-end : goal.returns-in-Ok-clause-end
returns-in-Ok-clause-end c fed is =
    asked_there c.args.self.now fed (Ok c.in-Ok.end) is (subst (λ (r : Result Lsn FollowFault). AsksFound c.args.self.now r) c.in-Ok.is c.asked.ensures)

pub returns-in-Err-clause-end : goal.returns-in-Err-clause-end
returns-in-Err-clause-end c fed is =
    asked_there c.args.self.now fed (Err c.in-Err.fault) is (subst (λ (r : Result Lsn FollowFault). AsksFound c.args.self.now r) c.in-Err.is c.asked.ensures)
