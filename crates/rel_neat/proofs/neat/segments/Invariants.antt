use Rattle.std.proofs.Common.{take}
use Rattle.std.specs.List.{All}
use Rattle.rel_neat.specs.Segments.{IsSegmentNamed}
use Rattle.rel_neat.proofs.Listed.{Lists}
use Rattle.rel_neat.proofs.neat.segments.Given as goal

abbrev pub invariant-loop-name : goal.invariant-loop-name
invariant-loop-name g l = record {
  lists : Lists (take l.name-index l.name-items) l.found.items;
  named : All IsSegmentNamed l.found.items;
}
