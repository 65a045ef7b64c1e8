-- The store of pages that segment files hold.
use Rattle.std.specs.Prelude.{◌≡◌, ◌<◌, ◌≤◌, ℕ, ◌+◌, ◌⊎◌, Bool, true, false, List, [], take, length, nat_le, Option, Some, None}
use Rattle.std.specs.List.{flat_map, range_with_len}
use Rattle.std.specs.Option.{is_some}
use Rattle.std.specs.FinMap.{get, contains_key}
use Rattle.lsn_core.specs.Files.{Files}
use Rattle.lsn_core.specs.Names.{IsNamed}
use Rattle.lsn_core.specs.Store.{Store, ForkPages}
use Rattle.lsn_core.specs.declared.ids.ForkId.{ForkId}
use Rattle.chain_files.specs.Segments.{Segments, plain_segments, chain_segments}

-- how many pages of a fork are read at most (profile)
unfoldable pub most_pages : ℕ
most_pages = 4294967295

-- the pages that are taken of a segment's file, at most so many
abbrev pub pages_taken : ℕ → Option ForkPages → ForkPages
pages_taken relseg None = []
pages_taken relseg (Some pages) = take relseg pages

-- a file holds as many pages as one may
abbrev pub is_full : ℕ → Option ForkPages → Bool
is_full relseg None = false
is_full relseg (Some pages) = nat_le relseg (length pages)

-- the pages of the first files of a fork, in order of segment, so many files
abbrev pub pages_up_to : ℕ → (ℕ → Option ForkPages) → ℕ → ForkPages
pages_up_to relseg segments count =
    flat_map (λ seg. pages_taken relseg (segments seg)) (range_with_len 0 count)

-- the pages of a fork are those of its files, up to the first file that is missing or not full, and
-- at most as many as are read
pub record IsForkOf (relseg : ℕ) (segments : ℕ → Option ForkPages) (pages : ForkPages)
    : Type 0 where
  pub full : ℕ
  pub before : (seg : ℕ) → seg < full → is_full relseg (segments seg) ≡ true
  pub stops : (is_full relseg (segments full) ≡ false)
      ⊎ (most_pages ≤ length (pages_up_to relseg segments (full + 1)))
  pub are : pages ≡ take most_pages (pages_up_to relseg segments (full + 1))

-- segment files hold a store, at so many blocks a file: it has the forks whose first file is there,
-- and of each the pages of its files
pub record IsStoreOf (relseg : ℕ) (segments : Segments) (store : Store) : Type 0 where
  pub named : (fork : ForkId) → contains_key store fork ≡ true → IsNamed fork 0
  pub forks : (fork : ForkId) → IsNamed fork 0
      → contains_key store fork ≡ is_some (segments fork 0)
  pub pages : (fork : ForkId) (pages : ForkPages) → get store fork ≡ Some pages
      → IsForkOf relseg (segments fork) pages

-- a directory holds a store, by its plain files
abbrev pub IsStoreIn : ℕ → Files → Store → Type 0
IsStoreIn relseg files store = IsStoreOf relseg (plain_segments files) store

-- a chain of directories holds a store, by what it is combined to
abbrev pub IsStoreOfChain : ℕ → List Files → Store → Type 0
IsStoreOfChain relseg chain store = IsStoreOf relseg (chain_segments chain) store
