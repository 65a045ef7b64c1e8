-- What entries and writes leave of a partition.
use Rattle.std.specs.Prelude.{◌≡◌, ℕ, false, List, [], ◌∷◌, ◌++◌, take, drop, Some, IsSome, if◌then◌else◌}
use Rattle.std.specs.Option.{is_some}
use Rattle.std.specs.FinMap.{insert, remove, contains_key}
use Rattle.lsn_core.specs.Relation.{Relation}
use Rattle.lsn_core.specs.declared.ids.ForkId.{ForkId}
use Rattle.lsn_core.specs.Store.{Store}
use Rattle.lsn_core.specs.Blocks.{with_fork, with_cut, without_fork}
use Rattle.history.specs.declared.op.Item.{Item}
use Rattle.history.specs.Entry.{Act, Create, Truncate, Change, Drop, Mark}
use Rattle.history.specs.Apply.{main_fork, init_fork, without_rel, apply_act}
use Rattle.history.specs.fuzzy_copies.Sound.{Agree}
use Rattle.page_frames.specs.Marks.{DirtyMarks, fork_marks, touch_end, is_dirty, touched}
use Rattle.page_pool.specs.declared.work.Work.{Work}
use Rattle.page_pool.specs.declared.work.Work.TheVariants.{Make, Cut, Remove}
use Rattle.page_pool.specs.declared.work.Pending.{Pending}
use Rattle.page_pool.specs.Part.{Part, is_to_settle, is_to_cut}

abbrev pub items_touched : ℕ → DirtyMarks → List Item → DirtyMarks
items_touched end marks [] = marks
items_touched end marks (item ∷ items) = items_touched end (touched end marks item.at) items

-- a fork of these frames, where it is there, taken away: its marks go, and a work is entered
abbrev pub marks_without : Store → DirtyMarks → ForkId → DirtyMarks
marks_without frames marks fork = if contains_key frames fork then remove marks fork else marks

abbrev pub with_removal : ℕ → Store → List Pending → ForkId → List Pending
with_removal end frames works fork =
    if contains_key frames fork
    then works ++ (record { work = Remove fork; end = record { 0 = end } } ∷ []) else works

-- the same for the forks of relations, in turn, the main fork first
abbrev pub marks_dropped : Store → DirtyMarks → List Relation → DirtyMarks
marks_dropped frames marks [] = marks
marks_dropped frames marks (rel ∷ rels) =
    marks_dropped (without_rel frames rel)
    (marks_without (without_fork frames (main_fork rel))
    (marks_without frames marks (main_fork rel)) (init_fork rel)) rels

abbrev pub works_dropped : ℕ → Store → List Pending → List Relation → List Pending
works_dropped end frames works [] = works
works_dropped end frames works (rel ∷ rels) =
    works_dropped end (without_rel frames rel)
    (with_removal end (without_fork frames (main_fork rel))
    (with_removal end frames works (main_fork rel)) (init_fork rel)) rels

-- the marks after an act on these frames by an entry that ends at a place
abbrev pub marks_after : ℕ → Store → DirtyMarks → Act → DirtyMarks
marks_after end frames marks (Create fork) = insert marks fork (fork_marks marks fork)
marks_after end frames marks (Truncate rel count) =
    insert marks (main_fork rel) (take count (fork_marks marks (main_fork rel)))
marks_after end frames marks (Change items) = items_touched end marks items
marks_after end frames marks (Drop rels) = marks_dropped frames marks rels
marks_after end frames marks (Mark marking) = marks

-- the pending works after it: a creation enters one, and so does each truncation; a drop enters one
-- for each fork that is there
abbrev pub works_after : ℕ → Store → List Pending → Act → List Pending
works_after end frames works (Create fork) =
    works ++ (record { work = Make fork; end = record { 0 = end } } ∷ [])
works_after end frames works (Truncate rel count) =
    works ++ (record { work = Cut (main_fork rel) count; end = record { 0 = end } } ∷ [])
works_after end frames works (Change items) = works
works_after end frames works (Drop rels) = works_dropped end frames works rels
works_after end frames works (Mark marking) = works

-- a partition after an act of its own, by an entry that ends at a place
pub record HasApplied (end : ℕ) (act : Act) (old new : Part) : Type 0 where
  pub frames : apply_act end old.frames act ≡ Some new.frames
  pub marks : new.marks ≡ marks_after end old.frames old.marks act
  pub works : new.works ≡ works_after end old.frames old.works act
  pub point : new.point ≡ old.point
  pub disk : new.disk ≡ old.disk

-- a disk after a work
abbrev pub work_done : Work → Store → Store
work_done (Make fork) disk = with_fork disk fork
work_done (Cut fork count) disk = with_cut disk fork count
work_done (Remove fork) disk = without_fork disk fork

-- a disk after writes that may have failed: it changed nowhere but where something is dirty or
-- pending, and there it may be anything, as after a torn write
pub record ChangedWhereUnwritten (old new : Store) (marks : DirtyMarks) (works : List Pending)
    : Type 0 where
  pub blocks : (fork : ForkId) (block : ℕ) → is_dirty marks fork block ≡ false
      → is_to_cut works fork block ≡ false → Agree new old fork block
  pub forks : (fork : ForkId) → is_to_settle works fork ≡ false
      → contains_key new fork ≡ contains_key old fork

-- a partition after some of it was written, of its works the first ones. Of an area that doesn't
-- tell its files it isn't known that it gives back what was written
pub record HasWritten (old new : Part) : Type 0 where
  pub frames : IsSome old.disk → new.frames ≡ old.frames
  pub marks : (fork : ForkId) (block end : ℕ) → touch_end new.marks fork block ≡ Some end
      → touch_end old.marks fork block ≡ Some end
  pub done : ℕ
  pub works : new.works ≡ drop done old.works
  pub point : new.point ≡ old.point
  pub told : is_some new.disk ≡ is_some old.disk

-- nothing is dirty or pending
pub record IsClean (part : Part) : Type 0 where
  pub marks : (fork : ForkId) (block : ℕ) → is_dirty part.marks fork block ≡ false
  pub works : part.works ≡ []
