-- A new follower stands behind a stream without bytes.
use Rattle.std.proofs.Common.{arith}
use Rattle.wal_follow.proofs.Behind.{new_by}
use Rattle.wal_follow.proofs.follower.Follower.new.Goals as goal

pub returns-clause-follows : goal.returns-clause-follows
returns-clause-follows c =
    new_by c.args.segment c.args.relseg c.new.result.items c.first_tip.result c.new-2.result c.new-3.result c.new.ensures.items c.first_tip.ensures c.new-2.ensures c.new-3.ensures (omega (arith, c.mib-mib.ensures.range.least, c.mib-mib.ensures.value))
