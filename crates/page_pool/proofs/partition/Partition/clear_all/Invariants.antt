use Rattle.page_pool.specs.Steps.{HasWritten}
use Rattle.page_pool.specs.Calls.{ChangesForks, IsQuiet, SameBounds}
use Rattle.page_pool.specs.Writing.{AreClean}
use Rattle.page_pool.specs.Stops.{WritesFlushed, MayClearAll}
use Rattle.page_pool.proofs.partition.Partition.clear_all.Given as goal

abbrev pub invariant-loop-at : goal.invariant-loop-at
invariant-loop-at g l = record {
  written : HasWritten l.fn.self l.self;
  quiet : AreClean l.fn.self l.victims → IsQuiet l.fn.self l.self;
  bounds : SameBounds l.fn.self l.self;
  moments : WritesFlushed (MayClearAll l.fn.self l.victims) l.fn.self l.self;
  area : ChangesForks l.fn.self l.self;
}
