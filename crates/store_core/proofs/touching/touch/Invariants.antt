use Rattle.std.proofs.Common.{◌≡◌, ◌++◌, take, drop}
use Rattle.store_core.specs.Parts.{with_dirty}
use Rattle.store_core.proofs.touching.touch.Given as goal

abbrev pub invariant-loop-place : goal.invariant-loop-place
invariant-loop-place l = record {
  same : l.dirty.items ≡ l.fn.dirty.items;
  behind : take l.place l.fn.dirty.items ++ with_dirty l.at (drop l.place l.fn.dirty.items) ≡ with_dirty l.at l.fn.dirty.items;
}
