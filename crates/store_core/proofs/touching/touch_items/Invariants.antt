use Rattle.std.proofs.Common.{◌≡◌, drop}
use Rattle.store_core.specs.Parts.{items_dirty}
use Rattle.store_core.proofs.touching.touch_items.Given as goal

abbrev pub invariant-loop-item : goal.invariant-loop-item
invariant-loop-item l = items_dirty l.dirty.items (drop l.item-index l.items) ≡ items_dirty l.fn.dirty.items l.items
