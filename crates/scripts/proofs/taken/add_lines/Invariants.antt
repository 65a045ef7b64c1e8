use Rattle.std.proofs.Common.{take}
use Rattle.std.specs.List.{list_any}
use Rattle.scripts.specs.Named.{names_backup}
use Rattle.scripts.specs.Inside.{AddsNames}
use Rattle.scripts.proofs.taken.add_lines.Given as goal

abbrev pub invariant-loop-line : goal.invariant-loop-line
invariant-loop-line l = AddsNames (λ name. list_any (names_backup name) (take l.line-index l.lines)) l.fn.names l.names
