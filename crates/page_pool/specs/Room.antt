-- Room for a command: frames for its blocks, and what is written to make it.
use Rattle.std.specs.Prelude.{ℕ, ◌+◌, ◌-◌, ◌≤◌, max, List, [], ◌∷◌, ◌++◌, map, Option, None, IsSome}
use Rattle.std.specs.List.{All, filter_map, reduce}
use Rattle.std.specs.FinMap.{get, len}
use Rattle.lsn_core.specs.declared.ids.BlockId.{BlockId}
use Rattle.history.specs.declared.op.Op.{Op}
use Rattle.history.specs.declared.op.Op.TheVariants as op
use Rattle.page_frames.specs.Marks.{touch_end}
use Rattle.page_frames.specs.Framed.{Framed, HeldFrames, lacks}
use Rattle.page_frames.specs.Overlay.{marks_over, IsBlockOf}
use Rattle.page_frames.specs.Sweep.{victims}
use Rattle.page_pool.specs.declared.work.Pending.{Pending}

-- the blocks that a command looks at and changes
abbrev pub blocks_of : Op → List BlockId
blocks_of (op.Create fork) = []
blocks_of (op.Truncate rel count) = []
blocks_of (op.Change items) = map (λ i. i.at) items
blocks_of (op.Drop rel) = []

-- how many of some blocks have no frame
abbrev pub missing : HeldFrames → List BlockId → ℕ
missing held [] = 0
missing held (at ∷ blocks) = lacks held at + missing held blocks

-- a block that is there has a frame
abbrev pub HasFrame : Framed → BlockId → Type 0
HasFrame f at = IsBlockOf f.lengths at → IsSome (get f.held at)

-- those of some blocks that are there have frames, and there are frames left for the others
pub record HasFrames (f : Framed) (blocks : List BlockId) : Type 0 where
  pub held : All (HasFrame f) blocks
  pub left : len f.held + missing f.held blocks ≤ f.limit

-- how many frames are to be given up for a command of these blocks, and of which blocks
abbrev pub wanted : Framed → List BlockId → ℕ
wanted f blocks = len f.held + missing f.held blocks - f.limit

abbrev pub room_victims : Framed → List BlockId → List BlockId
room_victims f blocks = victims blocks (wanted f blocks) f

-- where the entries end that touched those of some blocks that are dirty
abbrev pub ends_at : Framed → List BlockId → List ℕ
ends_at f blocks = filter_map (λ at. touch_end (marks_over f) at.fork at.block) blocks

-- the greatest of some pages' ends and of those of the works that are done before them; None where
-- there is no page: works are done where a page has to be written, and only there
abbrev pub newest_written : List Pending → List ℕ → Option ℕ
newest_written works [] = None
newest_written works (end ∷ ends) = reduce max (map (λ w. w.end.0) works ++ (end ∷ ends))

-- up to where the WAL has to be flushed before room is made for a command of these blocks; None
-- where nothing is written
abbrev pub room_end : Framed → List Pending → List BlockId → Option ℕ
room_end f works blocks = newest_written works (ends_at f (room_victims f blocks))
