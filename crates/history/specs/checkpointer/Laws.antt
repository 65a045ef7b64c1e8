-- What changes are written as, by the pages of a store.
use Rattle.std.specs.Prelude.{◌≡◌, ℕ, List, map}
use Rattle.lsn_core.specs.Store.{Store}
use Rattle.history.specs.declared.op.Item.{Item}
use Rattle.history.specs.Apply.{page_at}
use Rattle.history.specs.Op.{AreFit}
use Rattle.history.specs.Written.{block_of_item}
use Rattle.history.specs.checkpointer.Changes.{blocks_over, AreFitOver}

-- the pages of a store at the blocks of items; a missing one is a zero page
abbrev pub pages_before : Store → List Item → List (List ℕ)
pages_before store items = map (λ item. page_at store item.at) items

-- by these pages items are written as by the store
abbrev pub ChangesAreWrittenByPages : Type 0
ChangesAreWrittenByPages =
    (store : Store) (redo : ℕ) (items : List Item)
    → blocks_over redo items (pages_before store items) ≡ map (block_of_item store redo) items

-- items that can be written on a store can be so by these pages
abbrev pub FitChangesHavePages : Type 0
FitChangesHavePages =
    (store : Store) (items : List Item)
    → AreFit store items → AreFitOver items (pages_before store items)
