use Rattle.stop_comebacks.proofs.Earlier.{earlier_left}
use Rattle.stop_comebacks.proofs.laws.earlier_places_are_left.Goals as goal

pub returns : goal.returns
returns c = earlier_left
