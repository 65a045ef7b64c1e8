use Rattle.combine.proofs.SameSegments.{holds_the_same}
use Rattle.combine.proofs.laws.combined_directories_hold_the_same.Goals as goal

pub returns : goal.returns
returns c = holds_the_same
