-- What a stop leaves of a partition's area while it is written.
use Rattle.std.specs.Prelude.{◌≡◌, ℕ, ◌≤◌, List, Some, IfSome}
use Rattle.std.specs.List.{All}
use Rattle.lsn_core.specs.declared.ids.BlockId.{BlockId}
use Rattle.lsn_core.specs.Store.{Store}
use Rattle.vault.specs.Frame.{Adds, LeavesNow, LeavesOnly}
use Rattle.rel_files.specs.Shown.{AreFilesOf}
use Rattle.stop_areas.specs.Left.{Base, HasPagesThatStay, IsLeftOf}
use Rattle.stop_areas.specs.Keeps.{Keeps, MayBeThere, MayWrite, MayBeCut, MayBeRemoved}
use Rattle.page_frames.specs.Marks.{touch_end}
use Rattle.page_pool.specs.declared.work.Work.{Work}
use Rattle.page_pool.specs.declared.work.Work.TheVariants.{Make, Cut, Remove}
use Rattle.page_pool.specs.Part.{Part}
use Rattle.page_pool.specs.Room.{room_end}

-- ---- what may be written

-- a work may be done
abbrev pub MayDo : Base → Work → Type 0
MayDo base (Make fork) = MayBeThere base fork
MayDo base (Cut fork count) = MayBeCut base fork count
MayDo base (Remove fork) = MayBeRemoved base fork

-- what is dirty or pending by entries that end at a mark or before it may be written
pub record Allows (mark : ℕ) (base : Base) (part : Part) : Type 0 where
  pub pages : (at : BlockId) (end : ℕ) → touch_end part.marks at.fork at.block ≡ Some end
      → end ≤ mark → MayWrite base at
  pub works : All (λ w. w.end.0 ≤ mark → MayDo base w.work) part.works

-- ---- what stays

-- the area tells its files, and they hold the pages that stay
pub record RawKeeps (base : Base) (part : Part) : Type 0 where
  pub raw : Store
  pub held : AreFilesOf part.relseg part.disk raw
  pub pages : HasPagesThatStay base raw

-- where what is flushed up to a mark may be written, and the files hold the pages that stay, they
-- hold them still; and where a stop leaves what stays before, it does so at each moment
abbrev pub KeepsWindow : ℕ → Part → Part → Type 0
KeepsWindow mark old new =
    (base : Base) → Allows mark base old → RawKeeps base old
    → LeavesNow (IsLeftOf old.relseg base) old.past
    → RawKeeps base new × LeavesOnly (IsLeftOf old.relseg base) old.past new.past

-- ---- what private functions keep: no public contract cites these

-- the same by events
abbrev pub AddsInWindow : ℕ → Part → Part → Type 0
AddsInWindow mark old new =
    (base : Base) → Allows mark base old → RawKeeps base old
    → RawKeeps base new × Adds (Keeps old.relseg base) old.past new.past

-- no mark was taken, and where the WAL is flushed as far as may be needed, it is so
pub record WritesFlushed (may : ℕ → Type 0) (old new : Part) : Type 0 where
  pub flushed : new.flushed ≡ old.flushed
  pub moments : (flushed : ℕ) → may flushed → AddsInWindow flushed old new

-- a partition that was told that the WAL is flushed up to a place
abbrev pub with_flushed : ℕ → Part → Part
with_flushed flushed part = record {
  frames = part.frames;
  marks = part.marks;
  works = part.works;
  point = part.point;
  flushed = flushed;
  framed = part.framed;
  work_room = part.work_room;
  relseg = part.relseg;
  disk = part.disk;
  past = part.past;
  faults = part.faults;
}

-- the WAL is flushed up to the entries of all pending works; of all dirty pages; of the page of a
-- block, where it is dirty
abbrev pub MayDoWorks : Part → ℕ → Type 0
MayDoWorks part flushed = All (λ w. w.end.0 ≤ flushed) part.works

abbrev pub MayWritePage : Part → BlockId → ℕ → Type 0
MayWritePage part at flushed =
    (end : ℕ) → touch_end part.marks at.fork at.block ≡ Some end → end ≤ flushed

abbrev pub MayWritePages : Part → ℕ → Type 0
MayWritePages part flushed = (at : BlockId) → MayWritePage part at flushed

-- of all works, and of the page of a block, where it is dirty; of several blocks
abbrev pub MayClear : Part → BlockId → ℕ → Type 0
MayClear part at flushed =
    (end : ℕ) → touch_end part.marks at.fork at.block ≡ Some end
    → (end ≤ flushed) × MayDoWorks part flushed

abbrev pub MayClearAll : Part → List BlockId → ℕ → Type 0
MayClearAll part blocks flushed = All (λ at. MayClear part at flushed) blocks

-- of all that is written where room is made for these blocks
abbrev pub MayMakeRoom : Part → List BlockId → ℕ → Type 0
MayMakeRoom part blocks flushed =
    IfSome (room_end part.framed part.works blocks) (λ end. end ≤ flushed)

-- whatever is flushed
abbrev pub MayAlways : ℕ → Type 0
MayAlways flushed = Unit {0}
