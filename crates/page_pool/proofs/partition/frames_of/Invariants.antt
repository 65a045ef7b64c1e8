use Rattle.std.proofs.Common.{◌≡◌, take}
use Rattle.std.specs.FinMap.{empty}
use Rattle.page_pool.specs.Opening.{AreLengths}
use Rattle.page_pool.proofs.partition.frames_of.Given as goal

abbrev pub invariant-loop-len : goal.invariant-loop-len
invariant-loop-len l = record {
  lengths : AreLengths (take l.len-index l.list) l.frames.lengths;
  none : l.frames.held ≡ empty;
  limit : l.frames.limit ≡ l.limit;
}
