use Rattle.wal_summary.proofs.Maps.{has_below}
use Rattle.wal_summary.proofs.fork_marks.ForkMarks.cut.Goals as goal

pub returns-clause-blocks : goal.returns-clause-blocks
returns-clause-blocks c = λ b. has_below c.args.self.now.blocks c.split_off.new.self c.args.count b c.in_ok-split_off.ensures.below
