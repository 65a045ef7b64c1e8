-- Laws of a partition's frames and disk.
use Rattle.std.specs.Prelude.{◌≡◌, ℕ, ◌+◌, ◌≤◌, ◌<◌, ◌==◌, max, true, false, List, [], ◌∷◌, ◌++◌, map, length, Option, Some, None, IsSome, IfSome}
use Rattle.std.specs.Option.{is_some}
use Rattle.std.specs.List.{list_any}
use Rattle.std.specs.FinMap.{empty, get}
use Rattle.lsn_core.specs.declared.ids.ForkId.{ForkId}
use Rattle.lsn_core.specs.declared.ids.BlockId.{BlockId}
use Rattle.lsn_core.specs.Store.{Store}
use Rattle.lsn_core.specs.Files.{Files}
use Rattle.lsn_core.specs.Blocks.{block_of, block_count, page_put}
use Rattle.history.specs.declared.op.Op.{Op}
use Rattle.history.specs.Entry.{Act, Entry}
use Rattle.history.specs.Apply.{apply_act, apply_all}
use Rattle.history.specs.Op.{act_of_op, IsTidy}
use Rattle.history.specs.Pages.{page_count}
use Rattle.rel_files.specs.Forks.{Holds}
use Rattle.history.specs.partitions.Parts.{is_of, part_of, IsPart, concerns, ConcernsNoOther}
use Rattle.history.specs.fuzzy_copies.Covers.{Covers}
use Rattle.history.specs.fuzzy_copies.CoverLaws.{MakesTidily}
use Rattle.page_frames.specs.Marks.{DirtyMarks, is_dirty, cleaned}
use Rattle.page_frames.specs.Framed.{Framed, held_page}
use Rattle.page_frames.specs.Overlay.{pages_over, marks_over}
use Rattle.page_pool.specs.declared.work.Pending.{Pending}
use Rattle.page_pool.specs.declared.turn.Wrote.{Wrote}
use Rattle.page_pool.specs.Part.{Part, LacksUnwritten, IsMended, next_end, newest_end}
use Rattle.page_pool.specs.Steps.{marks_after, works_after, HasApplied, work_done, ChangedWhereUnwritten, HasWritten, IsClean}
use Rattle.page_pool.specs.Facts.{history_end, Follows}
use Rattle.page_pool.specs.Calls.{AreWholePages, IsOneWritten}
use Rattle.page_pool.specs.Told.{told_page}
use Rattle.command_judging.specs.Refusals.{judged_op}

-- a tidy act done in frames: the disk lacks what it lacked, and what the act touched or entered
abbrev pub ActsAreEntered : Type 0
ActsAreEntered =
    (disk frames next : Store) (marks : DirtyMarks) (works : List Pending) (end : ℕ) (act : Act)
    → IsTidy frames act → apply_act end frames act ≡ Some next
    → LacksUnwritten disk frames marks works
    → LacksUnwritten disk next (marks_after end frames marks act)
    (works_after end frames works act)

-- the first pending work done on the disk isn't pending any more
abbrev pub WorksAreDone : Type 0
WorksAreDone =
    (disk frames : Store) (marks : DirtyMarks) (first : Pending) (works : List Pending)
    → LacksUnwritten disk frames marks (first ∷ works)
    → LacksUnwritten (work_done first.work disk) frames marks works

-- where no work is pending, a page that was written is clean, also before earlier ones of its fork:
-- zeros that a write fills in stand at blocks that are dirty themselves
abbrev pub PagesAreWritten : Type 0
PagesAreWritten =
    (disk frames : Store) (marks : DirtyMarks) (at : BlockId) (page : List ℕ)
    → LacksUnwritten disk frames marks [] → block_of frames at.fork at.block ≡ Some page
    → LacksUnwritten (page_put at page disk) frames (cleaned marks at) []

-- after writes that failed it is dirty or pending what was so before
abbrev pub TornWritesStayUnwritten : Type 0
TornWritesStayUnwritten =
    (old new frames : Store) (marks : DirtyMarks) (works : List Pending)
    → ChangedWhereUnwritten old new marks works → LacksUnwritten old frames marks works
    → LacksUnwritten new frames marks works

-- where the pages in frames are of 8192 bytes, a disk lacks no more without some of its short pages
abbrev pub MendedDisksLackNoMore : Type 0
MendedDisksLackNoMore =
    (raw disk frames : Store) (marks : DirtyMarks) (works : List Pending)
    → ((fork : ForkId) (block : ℕ) (page : List ℕ) → block_of frames fork block ≡ Some page
    → length page ≡ 8192)
    → IsMended raw disk → LacksUnwritten raw frames marks works
    → LacksUnwritten disk frames marks works

-- where nothing is dirty or pending, the disk is what stands in frames
abbrev pub CleanDisksAreFrames : Type 0
CleanDisksAreFrames =
    (disk frames : Store) (marks : DirtyMarks) → LacksUnwritten disk frames marks []
    → ((fork : ForkId) (block : ℕ) → is_dirty marks fork block ≡ false) → disk ≡ frames

-- and a disk that is so lacks nothing
abbrev pub FramesLackNothing : Type 0
FramesLackNothing = (frames : Store) (marks : DirtyMarks) → LacksUnwritten frames frames marks []

-- frames are of these pages: their lengths are those of the forks, and no frame of a block that is
-- there has another page
pub record AreFramesOf (pages : Store) (f : Framed) : Type 0 where
  pub lengths : (fork : ForkId) → get f.lengths fork ≡ block_count pages fork
  pub blocks : (at : BlockId) (page held : List ℕ) → block_of pages at.fork at.block ≡ Some page
      → held_page f.held at ≡ Some held → held ≡ page

-- where files hold a store that lacks of some pages only what is dirty or pending, the pages in
-- frames of theirs over these files are those: whatever was written, given up or read
abbrev pub PagesAreShown : Type 0
PagesAreShown =
    (relseg : ℕ) (files : Files) (raw pages : Store) (works : List Pending) (f : Framed)
    → 0 < relseg → Holds relseg files raw → LacksUnwritten raw pages (marks_over f) works
    → AreWholePages pages → AreFramesOf pages f
    → pages_over (told_page relseg (Some files)) f ≡ pages

-- a partition that has a history's pages, and nothing dirty or pending, follows the history, from
-- each point up to the history's end
abbrev pub CleanPartsFollow : Type 0
CleanPartsFollow =
    (q : ℕ) (history : List Entry) (part : Part)
    → IfSome part.disk (λ files. apply_all empty (map (part_of q) history) ≡ Some part.frames)
    → IsClean part → part.point ≤ history_end history → Follows q history part

-- a partition follows its history over an entry of its own that was applied, which starts at the
-- history's end or past it
abbrev pub OwnEntriesAreFollowed : Type 0
OwnEntriesAreFollowed =
    (q : ℕ) (history : List Entry) (e : Entry) (old new : Part)
    → history_end history ≤ e.start → e.start ≤ e.end → ConcernsNoOther q e.act
    → HasApplied e.end e.act old new → Follows q history old → Follows q (history ++ (e ∷ [])) new

-- and over entries of others, of which it knows nothing, where the history ends no earlier with
-- them
abbrev pub OtherEntriesAreFollowed : Type 0
OtherEntriesAreFollowed =
    (q : ℕ) (history more : List Entry) (part : Part)
    → history_end history ≤ history_end (history ++ more) → list_any (concerns q) more ≡ false
    → Follows q history part → Follows q (history ++ more) part

-- what one call wrote was written: of the pending works the first one, or a page
abbrev pub OneWrittenIsWritten : Type 0
OneWrittenIsWritten =
    (what : Option Wrote) (old new : Part) → IsOneWritten what old new
    → is_some new.disk ≡ is_some old.disk → HasWritten old new

-- it follows its history still when pages and works are written
abbrev pub WritesAreFollowed : Type 0
WritesAreFollowed =
    (q : ℕ) (history : List Entry) (old new : Part)
    → HasWritten old new → Follows q history old → Follows q history new

-- and when all is written and its point is raised, to a place up to the history's end
abbrev pub CleaningIsFollowed : Type 0
CleaningIsFollowed =
    (q redo : ℕ) (history : List Entry) (old new : Part)
    → new.frames ≡ old.frames → IsClean new → new.point ≡ max old.point redo
    → (IsSome new.disk → IsSome old.disk) → redo ≤ history_end history
    → Follows q history old → Follows q history new

-- an entry of the history ends there
abbrev pub IsEndIn : List Entry → ℕ → Type 0
IsEndIn history end = list_any (λ e. e.end == end) history ≡ true

-- the entries of what isn't written are the history's: its WAL can be flushed up to them
abbrev pub UnwrittenIsOfHistory : Type 0
UnwrittenIsOfHistory =
    (q : ℕ) (history : List Entry) (part : Part) → Follows q history part
    → IfSome (next_end part) (IsEndIn history) × IfSome (newest_end part) (IsEndIn history)

-- where nothing is dirty or pending there is nothing to write next, and only there
abbrev pub CleanPartsHaveNoNext : Type 0
CleanPartsHaveNoNext =
    (part : Part)
    → (IsClean part → next_end part ≡ None) × (next_end part ≡ None → IsClean part)

-- where the entries from its point on are tidy, the disk of a partition that follows a history
-- covers the history from that point on: replay makes good what isn't written
abbrev pub FollowersCover : Type 0
FollowersCover =
    (q : ℕ) (history : List Entry) (part : Part) (disk now : Store)
    → MakesTidily history part.point now → IsSome part.disk → Follows q history part
    → LacksUnwritten disk part.frames part.marks part.works
    → Covers (is_of q) disk history part.point

-- a command that concerns one partition alone is refused on its part where it is on the store, and
-- for the same reason
abbrev pub PartsJudgeAlike : Type 0
PartsJudgeAlike =
    (q : ℕ) (store part : Store) (command : Op) → IsPart q store part
    → ConcernsNoOther q (act_of_op command) → judged_op part command ≡ judged_op store command

-- and an act that concerns one partition alone adds and takes away as many pages of its part as of
-- the store
abbrev pub PartsCountAlike : Type 0
PartsCountAlike =
    (q end : ℕ) (store part next last : Store) (act : Act) → IsPart q store part
    → ConcernsNoOther q act → apply_act end part act ≡ Some next
    → apply_act end store act ≡ Some last
    → page_count last + page_count part ≡ page_count store + page_count next
