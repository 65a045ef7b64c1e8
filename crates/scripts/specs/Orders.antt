-- What an order asks of the store.
use Rattle.std.specs.Prelude.{ℕ, zero, suc, ◌+◌, min, List, [], ◌∷◌, ◌++◌, map}
use Rattle.lsn_core.specs.declared.ids.BlockId.{BlockId}
use Rattle.pg_page.specs.Header.{made_page}
use Rattle.history.specs.declared.op.Op.{Op}
use Rattle.history.specs.declared.op.Op.TheVariants as op
use Rattle.history.specs.declared.op.Item.{Item}
use Rattle.history.specs.declared.op.Edit.{Edit}
use Rattle.history.specs.declared.op.Edit.TheVariants as edit
use Rattle.scripts.specs.declared.order.Order.{Order}
use Rattle.scripts.specs.declared.order.Order.TheVariants.{Create, Truncate, Drop, Change}
use Rattle.scripts.specs.declared.order.OrderItem.{OrderItem}
use Rattle.scripts.specs.declared.order.OrderEdit.{OrderEdit}
use Rattle.scripts.specs.declared.order.OrderEdit.TheVariants.{Put, Patch}
use Rattle.scripts.specs.Shape.{Shape}

abbrev pub edit_asked : OrderEdit → Edit
edit_asked (Put shape) = edit.Put (made_page shape.lower shape.upper shape.fill)
edit_asked (Patch frags) = edit.Patch frags

abbrev pub item_asked : OrderItem → Item
item_asked order = record { at = order.at; edit = edit_asked order.edit }

abbrev pub op_asked : Order → Op
op_asked (Create fork) = op.Create fork
op_asked (Truncate rel count) = op.Truncate rel count
op_asked (Drop rel) = op.Drop rel
op_asked (Change items) = op.Change (map item_asked items)

-- the block that a growth reaches after so many; behind the last number there is none
abbrev pub grow_at : BlockId → ℕ → BlockId
grow_at at k = record { fork = at.fork; block = min (at.block + k) 4294967295 }

-- what a growth from a block on asks for its block of this number, counted from 0: one page that is
-- made so, put there
abbrev pub grow_op : BlockId → Shape → ℕ → Op
grow_op at shape k = op.Change (item_asked (record { at = grow_at at k; edit = Put shape }) ∷ [])

-- and what it asks for the first so many
abbrev pub grow_ops : BlockId → Shape → ℕ → List Op
grow_ops at shape zero = []
grow_ops at shape (suc k) = grow_ops at shape k ++ (grow_op at shape k ∷ [])
