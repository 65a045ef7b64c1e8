-- What a stop may leave of the segment files of forks. Between two syncs of an area a page that was
-- written may be torn, a file that was made may be missing, and what was cut off or removed may be
-- there still, with any bytes. But what no entry changed whose WAL is flushed is found again.
use Rattle.std.specs.Prelude.{◌≡◌, ℕ, ◌+◌, ◌*◌, ◌/◌, ◌%◌, ◌<◌, ◌≤◌, Bool, true, false}
use Rattle.std.specs.Prelude.{List, length, get_or, Some, None}
use Rattle.std.specs.Option.{is_some}
use Rattle.std.specs.FinMap.{get, contains_key}
use Rattle.lsn_core.specs.declared.ids.ForkId.{ForkId}
use Rattle.lsn_core.specs.Files.{Files}
use Rattle.lsn_core.specs.Names.{fork_path_bytes, IsNamed}
use Rattle.lsn_core.specs.Store.{Store}
use Rattle.lsn_core.specs.Blocks.{block_of}
use Rattle.vault.specs.Area.{bytes_of}

-- ---- what stays

-- the forks of an area, what a store has of them at a place in the log, and what entries from there
-- on change: which blocks they touch or cut off, a removed fork's all, and of which forks they
-- settle whether they are there, as they create or remove them
pub record Base : Type 0 where
  pub ours : ForkId → Bool
  pub store : Store
  pub changed : ForkId → ℕ → Bool
  pub settled : ForkId → Bool

-- a block's page stays: no entry changes it
pub record Stays (base : Base) (fork : ForkId) (block : ℕ) (page : List ℕ) : Type 0 where
  pub ours : base.ours fork ≡ true
  pub kept : base.changed fork block ≡ false
  pub there : block_of base.store fork block ≡ Some page

-- a block stays missing
pub record StaysMissing (base : Base) (fork : ForkId) (block : ℕ) : Type 0 where
  pub ours : base.ours fork ≡ true
  pub kept : base.changed fork block ≡ false
  pub none : block_of base.store fork block ≡ None

-- a store has what stays: the pages, no block that stays missing, and the forks that no entry
-- settles where they were there
pub record HasWhatStays (base : Base) (store : Store) : Type 0 where
  pub pages : (fork : ForkId) (block : ℕ) (page : List ℕ)
      → Stays base fork block page → block_of store fork block ≡ Some page
  pub missing : (fork : ForkId) (block : ℕ)
      → StaysMissing base fork block → block_of store fork block ≡ None
  pub forks : (fork : ForkId) → base.ours fork ≡ true → base.settled fork ≡ false
      → contains_key store fork ≡ contains_key base.store fork

-- a store, such as an area's files hold now, has the pages that stay, each of 8192 bytes
abbrev pub HasPagesThatStay : Base → Store → Type 0
HasPagesThatStay base store = (fork : ForkId) (block : ℕ) (page : List ℕ)
    → Stays base fork block page
    → (block_of store fork block ≡ Some page) × (length page ≡ 8192)

-- ---- what is left of it in files

-- the bytes of a segment file, none where it is missing
abbrev pub segment_of : Files → ForkId → ℕ → List ℕ
segment_of files fork seg = bytes_of files (fork_path_bytes fork seg false)

-- a page stands whole at its block's place, and the fork's files before that are full
pub record HasPage (relseg : ℕ) (files : Files) (fork : ForkId) (block : ℕ) (page : List ℕ)
    : Type 0 where
  pub full : (seg : ℕ) → seg < block / relseg → relseg * 8192 ≤ length (segment_of files fork seg)
  pub room : block % relseg * 8192 + 8192 ≤ length (segment_of files fork (block / relseg))
  pub bytes : (i : ℕ) → i < 8192
      → get_or (segment_of files fork (block / relseg)) (block % relseg * 8192 + i) 0
      ≡ get_or page i 0

-- nothing stands at a block's place or behind it in its file. A later file may be there: a removal
-- that a stop undid brings it back
abbrev pub LacksPage : ℕ → Files → ForkId → ℕ → Type 0
LacksPage relseg files fork block =
    length (segment_of files fork (block / relseg)) ≤ block % relseg * 8192

-- files have what stays. Of all else they may have anything: torn pages, short files, a first file
-- that is missing where the fork was made, or is there still where it was removed
pub record IsLeftOf (relseg : ℕ) (base : Base) (files : Files) : Type 0 where
  pub pages : (fork : ForkId) (block : ℕ) (page : List ℕ) → IsNamed fork (block / relseg)
      → Stays base fork block page → HasPage relseg files fork block page
  pub missing : (fork : ForkId) (block : ℕ) → IsNamed fork (block / relseg)
      → StaysMissing base fork block → LacksPage relseg files fork block
  pub forks : (fork : ForkId) → IsNamed fork 0 → base.ours fork ≡ true
      → base.settled fork ≡ false
      → is_some (get files (fork_path_bytes fork 0 false)) ≡ contains_key base.store fork

-- more entries are flushed: they change and settle more, of the same forks and store
pub record ChangesMore (base more : Base) : Type 0 where
  pub ours : more.ours ≡ base.ours
  pub store : more.store ≡ base.store
  pub changed : (fork : ForkId) (block : ℕ)
      → more.changed fork block ≡ false → base.changed fork block ≡ false
  pub settled : (fork : ForkId) → more.settled fork ≡ false → base.settled fork ≡ false
