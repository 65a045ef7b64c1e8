use Rattle.stop_comebacks.proofs.Parts.{parts_left}
use Rattle.stop_comebacks.proofs.laws.stops_leave_parts.Goals as goal

pub returns : goal.returns
returns c = parts_left
