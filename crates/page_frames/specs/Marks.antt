-- Which pages of a store are dirty, and by which entries.
use Rattle.std.specs.Prelude.{◌≡◌, ℕ, Bool, false, List, [], ◌++◌, length, get_or, slice_get, Option, Some, None, ◌+◌, ◌-◌, ◌<◌, replicate, slice_set}
use Rattle.std.specs.List.{flat_map, filter_map}
use Rattle.std.specs.Option.{unwrap_or, is_some}
use Rattle.std.specs.FinMap.{FinMap, get, keys, insert}
use Rattle.std.specs.declared.cmp.Ordering.TheVariants.{Less}
use Rattle.lsn_core.specs.declared.ids.ForkId.{ForkId}
use Rattle.lsn_core.specs.Store.{fork_cmp}
use Rattle.lsn_core.specs.declared.ids.BlockId.{BlockId}

-- beside each page, where the last entry ends that touched it since it was written; None where the
-- page is clean
abbrev pub DirtyMarks : Type 0
DirtyMarks = FinMap fork_cmp (List (Option ℕ))

-- the marks of a fork's pages
abbrev pub fork_marks : DirtyMarks → ForkId → List (Option ℕ)
fork_marks marks fork = unwrap_or (get marks fork) []

-- where the last entry ends that touched a block since it was written; None where it is clean
abbrev pub touch_end : DirtyMarks → ForkId → ℕ → Option ℕ
touch_end marks fork block = get_or (fork_marks marks fork) block None

-- a block is dirty
abbrev pub is_dirty : DirtyMarks → ForkId → ℕ → Bool
is_dirty marks fork block = is_some (touch_end marks fork block)

-- marks with another one at a block; missing ones up to the block are clean
abbrev pub with_mark : List (Option ℕ) → ℕ → Option ℕ → List (Option ℕ)
with_mark marks block mark =
    slice_set (marks ++ replicate (block + 1 - length marks) None) block mark

-- a block was touched by an entry that ends at a place
abbrev pub touched : ℕ → DirtyMarks → BlockId → DirtyMarks
touched end marks at =
    insert marks at.fork (with_mark (fork_marks marks at.fork) at.block (Some end))

-- a block's page was written
abbrev pub cleaned : DirtyMarks → BlockId → DirtyMarks
cleaned marks at = insert marks at.fork (with_mark (fork_marks marks at.fork) at.block None)

-- where the entries end that touched the dirty pages of a fork, by block
abbrev pub dirty_ends : DirtyMarks → ForkId → List ℕ
dirty_ends marks fork = filter_map (λ mark. mark) (fork_marks marks fork)

-- where the entries end that touched the dirty pages, by fork and block
abbrev pub all_dirty_ends : DirtyMarks → List ℕ
all_dirty_ends marks = flat_map (dirty_ends marks) (keys marks)

-- no block of the fork before this one is dirty
abbrev pub NoneDirtyBefore : DirtyMarks → BlockId → Type 0
NoneDirtyBefore marks at = (block : ℕ) → block < at.block → is_dirty marks at.fork block ≡ false

-- this block is the first dirty one of all, by fork and block, touched by an entry that ends there
pub record IsFirstDirty (marks : DirtyMarks) (at : BlockId) (end : ℕ) : Type 0 where
  pub dirty : touch_end marks at.fork at.block ≡ Some end
  -- no earlier block of its fork is dirty, and no block of an earlier fork
  pub before : NoneDirtyBefore marks at
  pub least : (fork : ForkId) (block : ℕ) → fork_cmp fork at.fork ≡ Less
      → is_dirty marks fork block ≡ false
  -- so of all that is dirty its end is listed first
  pub first : slice_get (all_dirty_ends marks) 0 ≡ Some end
