use Rattle.stop_comebacks.proofs.WalParts.{wals_left}
use Rattle.stop_comebacks.proofs.laws.stops_leave_wals.Goals as goal

pub returns : goal.returns
returns c = wals_left
