-- Pages in frames over what stands behind the frames, and which of them are dirty.
use Rattle.std.specs.Prelude.{◌≡◌, ℕ, ◌+◌, ◌-◌, ◌<◌, ◌≤◌, ◌^◌, max, List, map, Some, IsSome}
use Rattle.std.specs.Option.{unwrap_or}
use Rattle.std.specs.List.{range_with_len}
use Rattle.std.specs.FinMap.{FinMap, get, insert, from_entries, entries}
use Rattle.lsn_core.specs.byte_words.Pieces.{zero_page}
use Rattle.lsn_core.specs.declared.ids.ForkId.{ForkId}
use Rattle.lsn_core.specs.declared.ids.BlockId.{BlockId}
use Rattle.lsn_core.specs.Store.{Store, fork_cmp}
use Rattle.page_frames.specs.Marks.{DirtyMarks}
use Rattle.page_frames.specs.Framed.{Framed, HeldFrames, ForkLengths, held_page, held_mark}

-- the page of a block: the one in its frame, or else what stands behind the frames
abbrev pub page_over : (BlockId → List ℕ) → HeldFrames → BlockId → List ℕ
page_over behind held at = unwrap_or (held_page held at) (behind at)

-- something of each block of a fork, and of each fork, by how many blocks these have
abbrev pub each_block : {X : Type 0} → (BlockId → X) → ForkId → ℕ → List X
each_block of fork count =
    map (λ block. of (record { fork = fork; block = block })) (range_with_len 0 count)

abbrev pub each_fork : {X : Type 0} → (BlockId → X) → ForkLengths → FinMap fork_cmp (List X)
each_fork of lengths = from_entries (map (λ e. (e.0, each_block of e.0 e.1)) (entries lengths))

-- the pages, over what stands behind the frames
abbrev pub pages_over : (BlockId → List ℕ) → Framed → Store
pages_over behind f = each_fork (page_over behind f.held) f.lengths

-- and where the entries end that touched them
abbrev pub marks_over : Framed → DirtyMarks
marks_over f = each_fork (held_mark f.held) f.lengths

-- the pages of the frames alone: a block without a frame is a zero page
abbrev pub own_pages : Framed → Store
own_pages f = pages_over (λ _. zero_page) f

-- a fork has a block
pub record IsBlockOf (lengths : ForkLengths) (at : BlockId) : Type 0 where
  pub count : ℕ
  pub long : get lengths at.fork ≡ Some count
  pub within : at.block < count

-- memory is kept for the length of a fork
abbrev pub HasSlot : Framed → ForkId → Type 0
HasSlot f fork = IsSome (get f.slots fork)

-- a block has a frame, and its place in the queue of dirty blocks
pub record IsReserved (f : Framed) (at : BlockId) : Type 0 where
  pub held : IsSome (get f.held at)
  pub queued : IsSome (get f.queue at)

-- all memory that was kept is kept
pub record KeepsReserved (old new : Framed) : Type 0 where
  pub slots : (fork : ForkId) → HasSlot old fork → HasSlot new fork
  pub blocks : (at : BlockId) → IsReserved old at → IsReserved new at

-- a block of a fork that is there, or the one right behind its last one
pub record HasPlace (lengths : ForkLengths) (at : BlockId) : Type 0 where
  pub count : ℕ
  pub long : get lengths at.fork ≡ Some count
  pub within : at.block ≤ count
  pub narrow : at.block < 2 ^ 32 - 1

-- lengths where a fork has at least the blocks up to this one
abbrev pub raised : ForkLengths → BlockId → ForkLengths
raised lengths at =
    insert lengths at.fork (max (unwrap_or (get lengths at.fork) 0) (at.block + 1))
