-- A partition of a store: its pages in frames, and what of them isn't written to its disk yet.
use Rattle.std.specs.Prelude.{◌≡◌, ℕ, ◌==◌, ◌&&◌, max, Bool, true, false, not, ◌||◌, List, [], ◌∷◌, ◌++◌, ◌⊎◌, map, length, slice_get, nat_le, Option, Some, None, if◌then◌else◌}
use Rattle.std.specs.List.{list_any, flat_map, reduce}
use Rattle.std.specs.FinMap.{keys, contains_key}
use Rattle.lsn_core.specs.declared.ids.ForkId.{ForkId}
use Rattle.lsn_core.specs.Files.{Files}
use Rattle.lsn_core.specs.Store.{Store}
use Rattle.lsn_core.specs.Blocks.{block_of}
use Rattle.vault.specs.Stops.{Event}
use Rattle.history.specs.Apply.{is_same_fork}
use Rattle.history.specs.fuzzy_copies.Sound.{Agree}
use Rattle.page_frames.specs.Marks.{DirtyMarks, is_dirty, dirty_ends}
use Rattle.page_frames.specs.Framed.{Framed}
use Rattle.page_pool.specs.declared.work.Work.{Work}
use Rattle.page_pool.specs.declared.work.Work.TheVariants.{Make, Cut, Remove}
use Rattle.page_pool.specs.declared.work.Pending.{Pending}

-- what a partition holds
pub record Part : Type 0 where
  pub frames : Store  -- its pages, as they are now: those in frames over the blocks of its area
  pub marks : DirtyMarks  -- which of them are dirty
  pub works : List Pending  -- what is to be done before dirty pages are written, in order
  pub point : ℕ  -- replay from here on makes good what isn't written
  pub flushed : ℕ  -- the WAL is flushed up to here: the greatest place of the marks it was given
  pub framed : Framed  -- which blocks have a frame, and what for others room is kept
  pub work_room : ℕ  -- how many works may be entered without memory
  pub relseg : ℕ  -- blocks a segment file
  pub disk : Option Files  -- the files of its area, where that tells them
  pub past : Option (List Event)  -- what happened to the area, where that tells it
  pub faults : ℕ  -- how often a call of the area failed

-- a work settles whether the fork is there, since it makes or removes it; it cuts the block off
abbrev pub work_settles : ForkId → Work → Bool
work_settles fork (Make made) = is_same_fork fork made
work_settles fork (Cut cut count) = false
work_settles fork (Remove gone) = is_same_fork fork gone

abbrev pub work_cuts : ForkId → ℕ → Work → Bool
work_cuts fork block (Make made) = false
work_cuts fork block (Cut cut count) = is_same_fork fork cut && nat_le count block
work_cuts fork block (Remove gone) = is_same_fork fork gone

-- one of the pending works makes the fork or removes it; one cuts the block off
abbrev pub is_to_settle : List Pending → ForkId → Bool
is_to_settle works fork = list_any (λ w. work_settles fork w.work) works

abbrev pub is_to_cut : List Pending → ForkId → ℕ → Bool
is_to_cut works fork block = list_any (λ w. work_cuts fork block w.work) works

-- whether a fork is there once a work is done, by whether it was before, and once all are
abbrev pub there_after : ForkId → Bool → Work → Bool
there_after fork there (Make made) = there || is_same_fork fork made
there_after fork there (Cut cut count) = there
there_after fork there (Remove gone) = there && not (is_same_fork fork gone)

abbrev pub there_behind : List Pending → ForkId → Bool → Bool
there_behind [] fork there = there
there_behind (w ∷ works) fork there = there_behind works fork (there_after fork there w.work)

-- a disk lacks of the frames what is dirty or pending, and nothing else
pub record LacksUnwritten (disk frames : Store) (marks : DirtyMarks) (works : List Pending)
    : Type 0 where
  -- it has a clean block as it is, unless a pending work cuts it
  pub same : (fork : ForkId) (block : ℕ) → is_dirty marks fork block ≡ false
      → is_to_cut works fork block ≡ false → Agree disk frames fork block
  -- a clean block that a pending work cuts isn't there any more
  pub gone : (fork : ForkId) (block : ℕ) → is_dirty marks fork block ≡ false
      → is_to_cut works fork block ≡ true → block_of frames fork block ≡ None
  -- once the pending works are done it has the forks that there are
  pub forks : (fork : ForkId)
      → there_behind works fork (contains_key disk fork) ≡ contains_key frames fork

-- a page of 8192 bytes; a short one, as a write that failed may leave at a fork's end, is none
abbrev pub if_whole : Option (List ℕ) → Option (List ℕ)
if_whole None = None
if_whole (Some page) = if length page == 8192 then Some page else None

-- a disk without some of the short pages of another, whose other blocks stay as they are: writes
-- mend one fork at a time
pub record IsMended (raw disk : Store) : Type 0 where
  pub blocks : (fork : ForkId) (block : ℕ) → Agree disk raw fork block
      ⊎ (block_of disk fork block ≡ if_whole (block_of raw fork block))
  pub forks : (fork : ForkId) → contains_key disk fork ≡ contains_key raw fork

-- where the entries end of all that isn't written, in the order in which it is written: of the
-- pending works, then of the dirty pages, by fork and block
abbrev pub unwritten_ends : Part → List ℕ
unwritten_ends part =
    map (λ w. w.end.0) part.works ++ flat_map (dirty_ends part.marks) (keys part.marks)

-- where the entry ends of what is written next; None where nothing is dirty or pending
abbrev pub next_end : Part → Option ℕ
next_end part = slice_get (unwritten_ends part) 0

-- the greatest of these ends
abbrev pub newest_end : Part → Option ℕ
newest_end part = reduce max (unwritten_ends part)
