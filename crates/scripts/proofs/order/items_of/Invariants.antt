use Rattle.std.proofs.Common.{◌≡◌, map, take}
use Rattle.scripts.specs.Orders.{item_asked}
use Rattle.scripts.proofs.order.items_of.Given as goal

abbrev pub invariant-loop-order : goal.invariant-loop-order
invariant-loop-order l = l.list.items ≡ map item_asked (take l.order-index l.orders)
