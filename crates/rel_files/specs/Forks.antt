-- A store kept as segment files: what files hold of it, and what a change leaves.
use Rattle.std.specs.Prelude.{◌≡◌, ◌≢◌, ℕ, ◌+◌, ◌<◌, ◌≤◌, ◌⊎◌, min, max, ◌==◌, Bool, true, false}
use Rattle.std.specs.Prelude.{List, [], ◌∷◌, length, map, Option, Some, None, nat_lt, if◌then◌else◌}
use Rattle.std.specs.List.{All, filter}
use Rattle.std.specs.FinMap.{get, insert, entries, contains_key}
use Rattle.lsn_core.specs.declared.ids.ForkId.{ForkId}
use Rattle.lsn_core.specs.declared.ids.BlockId.{BlockId}
use Rattle.lsn_core.specs.declared.ids.ForkLen.{ForkLen}
use Rattle.lsn_core.specs.Files.{Files}
use Rattle.lsn_core.specs.Names.{fork_path_bytes, IsNamed}
use Rattle.lsn_core.specs.Store.{Store, ForkPages, segment_in}
use Rattle.lsn_core.specs.Blocks.{block_of, pages_of, page_put, with_cut, without_fork}
use Rattle.lsn_core.specs.Laws.{HasNamedForks}

-- ---- the pages that files hold

abbrev pub is_whole : List ℕ → Bool
is_whole page = length page == 8192

-- all pages have 8192 bytes but the last one, which a write that failed may have left short
abbrev pub AreHeld : ForkPages → Type 0
AreHeld [] = Unit {0}
AreHeld (page ∷ []) = length page ≤ 8192
AreHeld (page ∷ (next ∷ pages)) = (length page ≡ 8192) × AreHeld (next ∷ pages)

-- the pages without a short one
abbrev pub whole_pages : ForkPages → ForkPages
whole_pages pages = filter is_whole pages

-- the pages of a store's forks are as files hold them
abbrev pub HasHeldPages : Store → Type 0
HasHeldPages store = (fork : ForkId) (pages : ForkPages) → get store fork ≡ Some pages
    → AreHeld pages

-- all have 8192 bytes
abbrev pub HasWholePages : Store → Type 0
HasWholePages store = (fork : ForkId) (pages : ForkPages) → get store fork ≡ Some pages
    → All (λ page. length page ≡ 8192) pages

-- the store without the short page of a fork
abbrev pub mended_pages : Store → ForkId → Option ForkPages → Store
mended_pages store fork None = store
mended_pages store fork (Some pages) = insert store fork (whole_pages pages)

abbrev pub mended : Store → ForkId → Store
mended store fork = mended_pages store fork (get store fork)

-- a page put at a block: a short page behind the block stays, one at the block or before it goes
abbrev pub page_over : BlockId → List ℕ → Store → Store
page_over at page store =
    if nat_lt at.block (length (whole_pages (pages_of store at.fork)))
    then page_put at page store else page_put at page (mended store at.fork)

-- ---- the files of a store

-- each segment file of each fork is as the store says, and no segment file more is there; files of
-- other names may be
abbrev pub IsStoreOf : ℕ → Files → Store → Type 0
IsStoreOf relseg files store = (fork : ForkId) (seg : ℕ) → IsNamed fork seg
    → get files (fork_path_bytes fork seg false) ≡ segment_in relseg seg (get store fork)

-- the files hold a store, at so many blocks a file
pub record Holds (relseg : ℕ) (files : Files) (store : Store) : Type 0 where
  pub segments : IsStoreOf relseg files store
  pub named : HasNamedForks store
  pub held : HasHeldPages store

-- a file's path is that of a segment file of a fork
pub record IsForkPath (path : List ℕ) : Type 0 where
  pub fork : ForkId
  pub seg : ℕ
  pub named : IsNamed fork seg
  pub path_is : path ≡ fork_path_bytes fork seg false

-- the forks of a store with the numbers of their whole pages, in order
abbrev pub fork_lengths : Store → List ForkLen
fork_lengths store =
    map (λ e. record { fork = e.0; blocks = length (whole_pages e.1) }) (entries store)

-- ---- what a change that failed leaves

-- other forks are as they were
abbrev pub AgreeOnOthers : ForkId → Store → Store → Type 0
AgreeOnOthers fork old new = (other : ForkId) → other ≢ fork → get new other ≡ get old other

-- a put of a page that failed: the whole pages that were there are there still, but for the one at
-- the block; what stands behind them, up to the block, may be anything
pub record IsTornPut (at : BlockId) (old new : Store) : Type 0 where
  pub others : AgreeOnOthers at.fork old new
  pub there : contains_key old at.fork ≡ true → contains_key new at.fork ≡ true
  pub blocks : (block : ℕ) → block < length (whole_pages (pages_of old at.fork))
      → block ≢ at.block → block_of new at.fork block ≡ block_of old at.fork block
  pub most : length (pages_of new at.fork) ≤ max (length (pages_of old at.fork)) (at.block + 1)

-- a cut that failed: the first pages are there, at least as many as are to stay
pub record IsTornCut (fork : ForkId) (to : ℕ) (old new : Store) : Type 0 where
  pub left : ℕ
  pub least : min to (length (whole_pages (pages_of old fork))) ≤ left
  pub cut : new ≡ with_cut old fork left

-- a removal that failed: the first pages are there, so many, or the fork is gone
abbrev pub IsTornRemoval : ForkId → Store → Store → Type 0
IsTornRemoval fork old new = IsTornCut fork 0 old new ⊎ (new ≡ without_fork old fork)
