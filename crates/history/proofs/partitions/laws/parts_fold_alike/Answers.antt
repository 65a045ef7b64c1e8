use Rattle.history.proofs.partitions.Folds.{parts_fold}
use Rattle.history.proofs.partitions.laws.parts_fold_alike.Goals as goal

pub returns : goal.returns
returns c = parts_fold
