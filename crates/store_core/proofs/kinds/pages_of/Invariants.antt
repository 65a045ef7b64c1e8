use Rattle.std.proofs.Common.{◌≡◌, take}
use Rattle.history.specs.checkpointer.Laws.{pages_before}
use Rattle.store_core.proofs.kinds.pages_of.Given as goal

abbrev pub invariant-loop-item : goal.invariant-loop-item
invariant-loop-item l = l.pages.items ≡ pages_before l.frames (take l.item-index l.items)
