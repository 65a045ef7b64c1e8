use Rattle.std.proofs.Common.{take}
use Rattle.crew.specs.Backups.{areas_asked}
use Rattle.run_command.specs.Inner.{AreEachOnce}
use Rattle.run_command.proofs.lending.asked_areas.Given as goal

-- the areas of the lines before this one are noted
abbrev pub invariant-loop-line : goal.invariant-loop-line
invariant-loop-line l = AreEachOnce (areas_asked (take l.line-index l.lines)) l.names.items
