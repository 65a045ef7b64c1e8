use Rattle.std.proofs.Common.{◌≡◌, map, take}
use Rattle.page_pool.proofs.room.blocks_in.Given as goal

abbrev pub invariant-loop-item : goal.invariant-loop-item
invariant-loop-item l = l.few ≡ map (λ i. i.at) (take l.item-index l.items)
