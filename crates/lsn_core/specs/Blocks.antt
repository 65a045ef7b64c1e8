-- Blocks of a store, and what a change leaves of the store.
use Rattle.std.specs.Prelude.{ℕ, ◌+◌, ◌-◌, List, [], ◌++◌, length, take, replicate, slice_get, slice_set, Option, Some, None, if◌then◌else◌}
use Rattle.std.specs.Option.{option_map, unwrap_or}
use Rattle.std.specs.FinMap.{get, insert, remove, contains_key}
use Rattle.lsn_core.specs.byte_words.Numbers.{◌>>=◌}
use Rattle.lsn_core.specs.byte_words.Pieces.{zero_page}
use Rattle.lsn_core.specs.declared.ids.ForkId.{ForkId}
use Rattle.lsn_core.specs.declared.ids.BlockId.{BlockId}
use Rattle.lsn_core.specs.Store.{Store, ForkPages}

-- the page at a block, where there is one
abbrev pub block_of : Store → ForkId → ℕ → Option (List ℕ)
block_of store fork block = get store fork >>= λ pages. slice_get pages block

-- how many blocks a fork has, where there is one
abbrev pub block_count : Store → ForkId → Option ℕ
block_count store fork = option_map length (get store fork)

-- the pages of a fork; a missing fork has none
abbrev pub pages_of : Store → ForkId → ForkPages
pages_of store fork = unwrap_or (get store fork) []

-- the pages with another one at a block; missing pages up to the block are zero pages
abbrev pub with_block : ForkPages → ℕ → List ℕ → ForkPages
with_block pages block page =
    slice_set (pages ++ replicate (block + 1 - length pages) zero_page) block page

-- the store with a page at a block; a missing fork is made
abbrev pub with_page : Store → ForkId → ℕ → List ℕ → Store
with_page store fork block page = insert store fork (with_block (pages_of store fork) block page)

-- the same at a block's name
abbrev pub page_put : BlockId → List ℕ → Store → Store
page_put at page store = with_page store at.fork at.block page

-- the store with an empty fork, where it has none of that name
abbrev pub with_fork : Store → ForkId → Store
with_fork store fork = if contains_key store fork then store else insert store fork []

-- the store with the first pages of a fork alone, so many; a missing fork stays missing
abbrev pub with_cut_pages : Store → ForkId → ℕ → Option ForkPages → Store
with_cut_pages store fork count None = store
with_cut_pages store fork count (Some pages) = insert store fork (take count pages)

abbrev pub with_cut : Store → ForkId → ℕ → Store
with_cut store fork count = with_cut_pages store fork count (get store fork)

-- the store without a fork
abbrev pub without_fork : Store → ForkId → Store
without_fork store fork = remove store fork
