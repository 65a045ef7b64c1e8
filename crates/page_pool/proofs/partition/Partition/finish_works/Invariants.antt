use Rattle.std.proofs.Common.{◌≡◌, length}
use Rattle.page_pool.specs.Steps.{HasWritten}
use Rattle.page_pool.specs.Calls.{ChangesForks}
use Rattle.page_pool.specs.Stops.{WritesFlushed, MayDoWorks}
use Rattle.page_pool.proofs.partition.Partition.finish_works.Given as goal

abbrev pub invariant-loop-work : goal.invariant-loop-work
invariant-loop-work g l = record {
  alike : l.self.framed ≡ l.fn.self.framed;
  marks : l.self.marks ≡ l.fn.self.marks;
  frames : l.self.frames ≡ l.fn.self.frames;
  written : HasWritten l.fn.self l.self;
  moments : WritesFlushed (MayDoWorks l.fn.self) l.fn.self l.self;
  area : ChangesForks l.fn.self l.self;
}

abbrev pub decreases-loop-work : goal.decreases-loop-work
decreases-loop-work g l = length l.self.works
