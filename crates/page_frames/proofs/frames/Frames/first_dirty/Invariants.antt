use Rattle.std.specs.List.Sorted.{IsStrictlySortedBy}
use Rattle.page_frames.specs.Framed.{block_cmp}
use Rattle.page_frames.proofs.Queue.{HasDirty}
use Rattle.page_frames.proofs.frames.Frames.first_dirty.Given as goal

abbrev pub invariant-loop-at : goal.invariant-loop-at
invariant-loop-at l = record {
  dirty : HasDirty l.self l.at-iterator;
  sorted : IsStrictlySortedBy block_cmp l.at-iterator;
}
