use Rattle.stop_areas.proofs.Moments.{keeps_in_turn}
use Rattle.stop_areas.proofs.laws.calls_keep_in_turn.Goals as goal

pub returns : goal.returns
returns c = keeps_in_turn
