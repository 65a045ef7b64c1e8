use Rattle.wal_summary.proofs.Maps.{none_marked}
use Rattle.wal_summary.proofs.mark_map.MarkMap.new.Goals as goal

pub returns : goal.returns
returns c = none_marked c.new.result c.new.ensures.empty
