-- What a partition keeps of its history.
use Rattle.std.specs.Prelude.{◌≡◌, ℕ, ◌≤◌, ◌==◌, ◌&&◌, Bool, true, false, List, map, Option, Some, None, IfSome, IsSome, if◌then◌else◌}
use Rattle.std.specs.List.{All, fold, list_any}
use Rattle.std.specs.FinMap.{empty}
use Rattle.lsn_core.specs.declared.ids.ForkId.{ForkId}
use Rattle.lsn_core.specs.Tip.{tip_with}
use Rattle.rel_files.specs.Laws.{HasOnlyForks}
use Rattle.history.specs.Entry.{Act, Create, Truncate, Change, Drop, Mark, Entry}
use Rattle.history.specs.Apply.{main_fork, is_same_fork, is_of_any, apply_all}
use Rattle.history.specs.Written.{tip_over}
use Rattle.history.specs.partitions.Parts.{part_of}
use Rattle.history.specs.fuzzy_copies.Touches.{touches}
use Rattle.history.specs.fuzzy_copies.Taken.{since}
use Rattle.history.specs.fuzzy_copies.Orderly.{AreOwnFrom}
use Rattle.page_frames.specs.Marks.{DirtyMarks, touch_end}
use Rattle.page_pool.specs.declared.work.Work.{Work}
use Rattle.page_pool.specs.declared.work.Work.TheVariants.{Make, Cut, Remove}
use Rattle.page_pool.specs.declared.work.Pending.{Pending}
use Rattle.page_pool.specs.Part.{Part}

-- where the last entry of a history ends; 0 where there is none
abbrev pub history_end : List Entry → ℕ
history_end history = (tip_over (tip_with 0 0 0 0) history).end

-- where the last entry ends that touched the block, after one more entry
abbrev pub touch_over : ForkId → ℕ → Option ℕ → Entry → Option ℕ
touch_over fork block last e = if touches fork block e then Some e.end else last

-- where the last of some entries ends that touched the block; None where none of them did
abbrev pub last_touch : ForkId → ℕ → List Entry → Option ℕ
last_touch fork block entries = fold (touch_over fork block) None entries

-- an act enters a work: a creation the making of its fork, a truncation the cut of its main fork, a
-- drop the removal of a fork of its relations
abbrev pub enters : Act → Work → Bool
enters (Create fork) (Make made) = is_same_fork made fork
enters (Create fork) (Cut cut blocks) = false
enters (Create fork) (Remove gone) = false
enters (Truncate rel count) (Make made) = false
enters (Truncate rel count) (Cut cut blocks) =
    is_same_fork cut (main_fork rel) && (blocks == count)
enters (Truncate rel count) (Remove gone) = false
enters (Change items) work = false
enters (Drop rels) (Make made) = false
enters (Drop rels) (Cut cut blocks) = false
enters (Drop rels) (Remove gone) = is_of_any gone rels
enters (Mark marking) work = false

-- one of some entries entered a pending work, and ends where the work says
abbrev pub is_entered : List Entry → Pending → Bool
is_entered entries w = list_any (λ e. enters e.act w.work && (e.end == w.end.0)) entries

-- all that is dirty or pending comes from entries of a window
pub record IsSince (window : List Entry) (marks : DirtyMarks) (works : List Pending)
    : Type 0 where
  -- a dirty block's mark is the end of the last entry that touched the block
  pub touched : (fork : ForkId) (block end : ℕ) → touch_end marks fork block ≡ Some end
      → last_touch fork block window ≡ Some end
  -- a pending work was entered by one of the entries
  pub entered : All (λ w. is_entered window w ≡ true) works

-- the partition's parts of the entries from a place on
abbrev pub own_since : ℕ → ℕ → List Entry → List Entry
own_since q from history = map (part_of q) (since from history)

-- a partition, of this number, follows a history
pub record Follows (q : ℕ) (history : List Entry) (part : Part) : Type 0 where
  -- its point is at most the history's end
  pub late : part.point ≤ history_end history
  -- what isn't written comes from entries at its point or past it
  pub unwritten : IsSince (own_since q part.point history) part.marks part.works
  -- where its area tells its files, its frames are what its part of the history makes
  pub made : IfSome part.disk
      (λ files. apply_all empty (map (part_of q) history) ≡ Some part.frames)

-- a partition follows the history, and its segment files have so many blocks each at most; where
-- areas tell their files, its own tells them, and holds no file but those of forks, and all entries
-- of the history from its point on are of this run
pub record IsPartOf (q relseg : ℕ) (tells : Type 0) (history : List Entry) (part : Part)
    : Type 0 where
  pub follows : Follows q history part
  pub relseg_is : part.relseg ≡ relseg
  pub own : tells → AreOwnFrom part.point history
  pub told : tells → IsSome part.disk
  pub alone : tells → IfSome part.disk HasOnlyForks
