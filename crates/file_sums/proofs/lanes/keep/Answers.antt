use Rattle.file_sums.proofs.Known.{kept}
use Rattle.file_sums.proofs.lanes.keep.Goals as goal

pub returns-then-row-len : goal.returns-then-row-len
returns-then-row-len c m rows is all = kept m rows c.args.row _ c.args.same is all
