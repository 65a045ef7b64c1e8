-- What calls on pages answer and leave, for each store that these show.
use Rattle.std.specs.Prelude.{◌≡◌, ℕ, Bool, true, false, List, Option, Some, None}
use Rattle.lsn_core.specs.declared.ids.ForkId.{ForkId}
use Rattle.lsn_core.specs.declared.ids.BlockId.{BlockId}
use Rattle.lsn_core.specs.Store.{Store}
use Rattle.lsn_core.specs.Blocks.{block_of, block_count}

-- what is shown before is shown behind, changed so
abbrev pub Turns : {P : Type 0} → (P → Store → Type 0) → P → P → (Store → Store) → Type 0
Turns shows before behind changed = (s : Store) → shows before s → shows behind (changed s)

-- a fork has so many blocks, or isn't there
abbrev pub CountsBlocks : (Store → Type 0) → ForkId → Option ℕ → Type 0
CountsBlocks shown fork count = (s : Store) → shown s → count ≡ block_count s fork

-- a block that was read into a page, or that isn't there
abbrev pub BlockAnswer : Store → BlockId → List ℕ → List ℕ → Bool → Type 0
BlockAnswer store at old new true = block_of store at.fork at.block ≡ Some new
BlockAnswer store at old new false = (block_of store at.fork at.block ≡ None) × (new ≡ old)

abbrev pub ReadsBlock : (Store → Type 0) → BlockId → List ℕ → List ℕ → Bool → Type 0
ReadsBlock shown at old new there = (s : Store) → shown s → BlockAnswer s at old new there
