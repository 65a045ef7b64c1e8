use Rattle.lsn_core.proofs.SegmentNames.{name_of_first, one_segment}
use Rattle.lsn_core.proofs.laws.segments_are_read_again.Goals as goal

pub returns-clause-written : goal.returns-clause-written
returns-clause-written c = name_of_first

pub returns-clause-one : goal.returns-clause-one
returns-clause-one c = one_segment
