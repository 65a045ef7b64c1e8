-- Names of segments rise with their numbers.
use Rattle.lsn_core.proofs.SegmentOrder.{names_rise}
use Rattle.lsn_core.proofs.laws.segment_names_rise.Goals as goal

pub returns : goal.returns
returns c = names_rise
