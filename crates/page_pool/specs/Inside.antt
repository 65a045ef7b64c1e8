-- What the crate's private functions answer: no public contract cites these.
use Rattle.std.specs.Prelude.{◌≡◌, ℕ, ◌+◌, ◌-◌, ◌≤◌, List, [], ◌∷◌, ◌++◌, map, take, None, IsSome, vec_len, vec_capacity, box_value}
use Rattle.std.specs.Global.{Vec}
use Rattle.std.specs.List.{All}
use Rattle.std.specs.FinMap.{get, insert}
use Rattle.lsn_core.specs.declared.ids.BlockId.{BlockId}
use Rattle.lsn_core.specs.Store.{Store}
use Rattle.pg_page.specs.Header.{hole_zeroed}
use Rattle.pg_page.specs.Frags.{written_frags}
use Rattle.history.specs.declared.op.Op.{Op}
use Rattle.history.specs.declared.op.Op.TheVariants as op
use Rattle.history.specs.declared.op.Edit.{Edit}
use Rattle.history.specs.declared.op.Edit.TheVariants.{Put, Patch}
use Rattle.history.specs.declared.op.Item.{Item}
use Rattle.history.specs.Apply.{main_fork, page_at}
use Rattle.history.specs.Op.{act_of_op}
use Rattle.page_frames.specs.Marks.{DirtyMarks, fork_marks, touched}
use Rattle.page_frames.specs.Framed.{Framed, ForkLengths}
use Rattle.page_frames.specs.Overlay.{pages_over, marks_over, HasSlot, HasPlace, raised}
use Rattle.page_pool.specs.Ready.{HasRoomAt, HasRoomFor, AreGoodPages}
use Rattle.page_pool.specs.declared.ready.Done.{Done}
use Rattle.page_pool.specs.declared.ready.Done.TheVariants as done
use Rattle.page_pool.specs.declared.ready.NewPage.{NewPage}
use Rattle.page_pool.specs.declared.ready.Ready.{Ready}
use Rattle.wal_record.specs.Spelling.{IsWritable}
use Rattle.history.specs.Written.{kind_of}
use Rattle.page_pool.specs.declared.work.Work.TheVariants as work
use Rattle.page_pool.specs.declared.work.Pending.{Pending}
use Rattle.page_pool.specs.Steps.{marks_dropped, works_dropped}
use Rattle.command_judging.specs.Refusals.{judged_op}
use Rattle.command_judging.specs.Judging.{IsCounted}

-- ---- judging

-- ---- what is made ready

-- the page that an edit leaves, but for its LSN
abbrev pub page_of_edit : List ℕ → Edit → List ℕ
page_of_edit old (Put page) = hole_zeroed page
page_of_edit old (Patch frags) = hole_zeroed (written_frags frags old)

-- an item's block, and the page that it leaves there
abbrev pub page_of_item : Store → Item → BlockId × List ℕ
page_of_item store item = (item.at, page_of_edit (page_at store item.at) item.edit)

abbrev pub seen_page : NewPage → BlockId × List ℕ
seen_page new = (new.at, box_value new.page)

-- what a command does to the pages: each new page is what an item makes of the page before all
abbrev pub IsDoneBy : Store → Op → Done → Type 0
IsDoneBy store (op.Create fork) made = made ≡ done.Created fork
IsDoneBy store (op.Truncate rel count) made = made ≡ done.Cut rel count
IsDoneBy store (op.Change items) (done.Created fork) = ⊥
IsDoneBy store (op.Change items) (done.Cut rel count) = ⊥
IsDoneBy store (op.Change items) (done.Dropped rel) = ⊥
IsDoneBy store (op.Change items) (done.Put pages) =
    map seen_page pages.items ≡ map (page_of_item store) items
IsDoneBy store (op.Drop rel) made = made ≡ done.Dropped rel

-- ---- what is done

-- new pages are put in turn, each at a place that the ones before it leave
abbrev pub ArePlaces : ForkLengths → List NewPage → Type 0
ArePlaces lengths [] = Unit {0}
ArePlaces lengths (new ∷ pages) =
    HasPlace lengths new.at × ArePlaces (raised lengths new.at) pages

abbrev pub pages_touched : ℕ → DirtyMarks → List NewPage → DirtyMarks
pages_touched end marks [] = marks
pages_touched end marks (new ∷ pages) = pages_touched end (touched end marks new.at) pages

-- the marks and the pending works behind what was made ready on these frames, by an entry that ends
-- at a place
abbrev pub marks_done : ℕ → Store → DirtyMarks → Done → DirtyMarks
marks_done end frames marks (done.Created fork) = insert marks fork (fork_marks marks fork)
marks_done end frames marks (done.Cut rel count) =
    insert marks (main_fork rel) (take count (fork_marks marks (main_fork rel)))
marks_done end frames marks (done.Put pages) = pages_touched end marks pages.items
marks_done end frames marks (done.Dropped rel) = marks_dropped frames marks (rel ∷ [])

abbrev pub works_done : ℕ → Store → List Pending → Done → List Pending
works_done end frames works (done.Created fork) =
    works ++ (record { work = work.Make fork; end = record { 0 = end } } ∷ [])
works_done end frames works (done.Cut rel count) =
    works ++ (record { work = work.Cut (main_fork rel) count; end = record { 0 = end } } ∷ [])
works_done end frames works (done.Put pages) = works
works_done end frames works (done.Dropped rel) = works_dropped end frames works (rel ∷ [])

-- what was made ready may be done on frames and pending works, for which there is so much room,
-- without memory
abbrev pub MayBeDone : Framed → ℕ → Done → Type 0
MayBeDone f room (done.Created fork) =
    HasSlot f fork × (get f.lengths fork ≡ None) × (1 ≤ room)
MayBeDone f room (done.Cut rel count) =
    IsSome (get f.lengths (main_fork rel)) × (1 ≤ room)
MayBeDone f room (done.Dropped rel) = 2 ≤ room
MayBeDone f room (done.Put pages) =
    ArePlaces f.lengths pages.items × All (λ p. HasRoomAt f p.at) pages.items

-- the blocks at which it puts pages
abbrev pub blocks_done : Done → List BlockId
blocks_done (done.Created fork) = []
blocks_done (done.Cut rel count) = []
blocks_done (done.Put pages) = map (λ p. p.at) pages.items
blocks_done (done.Dropped rel) = []

-- ---- what stays of frames

-- pages, whatever stands behind the frames, marks, and lengths are as they were
pub record ShowsAlike (old new : Framed) : Type 0 where
  pub pages : (behind : BlockId → List ℕ) → pages_over behind new ≡ pages_over behind old
  pub marks : marks_over new ≡ marks_over old
  pub lengths : new.lengths ≡ old.lengths

-- how many works may be entered without memory
abbrev pub room_in : Vec Pending → ℕ
room_in works = vec_capacity works - vec_len works

-- ---- what was found

-- a command that nothing refuses, made of some pages and ready for frames and works as they are
pub record IsFound (pages : Store) (f : Framed) (room : ℕ) (command : Op) (redo : ℕ) (ready : Ready)
    : Type 0 where
  pub free : judged_op pages command ≡ None
  pub done : IsDoneBy pages command ready.done
  pub good : AreGoodPages ready.done
  pub kind : ready.kind ≡ kind_of pages redo (act_of_op command)
  pub writable : IsWritable ready.kind
  pub counted : IsCounted pages command ready.added ready.gone
  pub left : HasRoomFor f room ready.done
