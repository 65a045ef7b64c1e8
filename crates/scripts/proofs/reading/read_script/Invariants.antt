use Rattle.std.proofs.Common.{◌-◌, length}
use Rattle.scripts.specs.Inside.{KnowsTaken}
use Rattle.scripts.proofs.SoFar.{SoFar}
use Rattle.scripts.proofs.reading.read_script.Given as goal

abbrev pub invariant-loop-at : goal.invariant-loop-at
invariant-loop-at l = SoFar l.workers l.bytes l.at l.number l.draft.tasks.items × KnowsTaken l.draft

abbrev pub decreases-loop-at : goal.decreases-loop-at
decreases-loop-at l = length l.bytes - l.at
