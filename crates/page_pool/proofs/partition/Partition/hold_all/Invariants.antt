use Rattle.std.proofs.Common.{take}
use Rattle.std.specs.List.{All}
use Rattle.page_pool.specs.Steps.{HasWritten}
use Rattle.page_pool.specs.Calls.{ReadsDisk, IsQuiet, SameBounds}
use Rattle.page_pool.specs.Room.{HasFrame}
use Rattle.page_pool.proofs.partition.Partition.hold_all.Given as goal

abbrev pub invariant-loop-at : goal.invariant-loop-at
invariant-loop-at g l = record {
  held : All (HasFrame l.self.framed) (take l.at-index l.blocks);
  written : HasWritten l.fn.self l.self;
  quiet : IsQuiet l.fn.self l.self;
  bounds : SameBounds l.fn.self l.self;
  area : ReadsDisk l.fn.self l.self;
}
