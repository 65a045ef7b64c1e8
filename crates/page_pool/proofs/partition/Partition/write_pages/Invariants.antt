use Rattle.std.proofs.Common.{◌≡◌, []}
use Rattle.std.specs.FinMap.{len}
use Rattle.page_pool.specs.Steps.{HasWritten}
use Rattle.page_pool.specs.Calls.{ChangesForks}
use Rattle.page_pool.specs.Stops.{WritesFlushed, MayWritePages}
use Rattle.page_pool.proofs.partition.Partition.write_pages.Given as goal

abbrev pub invariant-loop-at : goal.invariant-loop-at
invariant-loop-at g l = record {
  none : l.self.works ≡ [];
  frames : l.self.frames ≡ l.fn.self.frames;
  written : HasWritten l.fn.self l.self;
  moments : WritesFlushed (MayWritePages l.fn.self) l.fn.self l.self;
  area : ChangesForks l.fn.self l.self;
}

abbrev pub decreases-loop-at : goal.decreases-loop-at
decreases-loop-at g l = len l.self.framed.queue
