-- What changes of blocks are written as, by the pages before them.
use Rattle.std.specs.Prelude.{ℕ, ◌≤◌, List, [], ◌∷◌, length}
use Rattle.wal_record.specs.declared.record.BlockRef.{BlockRef}
use Rattle.history.specs.declared.op.Item.{Item}
use Rattle.history.specs.Op.{IsFitOver}
use Rattle.history.specs.Written.{block_over}

-- the blocks that items are written as, with the page for each that was there before
abbrev pub blocks_over : ℕ → List Item → List (List ℕ) → List BlockRef
blocks_over redo [] olds = []
blocks_over redo (item ∷ items) [] = []
blocks_over redo (item ∷ items) (old ∷ olds) =
    block_over redo item old ∷ blocks_over redo items olds

-- each item can be written, where the page for it was there before
abbrev pub EachIsFitOver : List Item → List (List ℕ) → Type 0
EachIsFitOver [] [] = Unit
EachIsFitOver [] (old ∷ olds) = ⊥
EachIsFitOver (item ∷ items) [] = ⊥
EachIsFitOver (item ∷ items) (old ∷ olds) = IsFitOver item old × EachIsFitOver items olds

-- 1 to 33 items can be written, with a page for each
pub record AreFitOver (items : List Item) (olds : List (List ℕ)) : Type 0 where
  pub some : 1 ≤ length items
  pub most : length items ≤ 33
  pub each : EachIsFitOver items olds
