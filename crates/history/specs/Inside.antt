-- What the crate's private functions do: no public contract cites these.
use Rattle.std.specs.Prelude.{◌≡◌, ℕ, ◌+◌, List, Option, Some, IfSome, if◌then◌else◌}
use Rattle.lsn_core.specs.declared.ids.BlockId.{BlockId}
use Rattle.lsn_core.specs.Store.{Store}
use Rattle.wal_record.specs.declared.record.BlockRef.{BlockRef}
use Rattle.history.specs.Apply.{apply_item}
use Rattle.history.specs.Whole.{item_of, is_repeat}

-- what a block reference says behind those of these blocks, applied to a store
abbrev pub apply_said : ℕ → List BlockId → Store → BlockRef → Option Store
apply_said end named store block =
    if is_repeat named (item_of block) then Some store else apply_item end store (item_of block)

-- the number of all pages once one fork has so many in place of so many before, where it is known
abbrev pub IsRecounted : Option ℕ → ℕ → ℕ → Option ℕ → Type 0
IsRecounted total before now result =
    IfSome result (λ n. (old : ℕ) × ((total ≡ Some old) × (n + before ≡ old + now)))
