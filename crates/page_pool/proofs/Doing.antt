-- What was made ready may be done, and leaves what its command leaves.
use Rattle.std.proofs.Common.{◌≡◌, ℕ, ◌+◌, ◌<◌, ◌≤◌, ◌^◌, cond, List, [], ◌∷◌, map, length, get_or, drop, Option, Some, None, IsSome, is_some, option_map, unwrap_or, refl, ap, sym, subst, ◌∙◌, arith}
use Rattle.std.specs.Prelude.{max}
use Rattle.std.specs.FinMap.{get, insert, get-insert, contains_key}
use Rattle.lsn_core.proofs.ForkOrder.{fork_cmp_total}
use Rattle.std.specs.List.{All}
use Rattle.lsn_core.proofs.byte_words.Fields.{bind_some}
use Rattle.lsn_core.specs.declared.ids.ForkId.{ForkId}
use Rattle.lsn_core.specs.declared.ids.BlockId.{BlockId}
use Rattle.lsn_core.specs.Store.{Store, ForkPages}
use Rattle.lsn_core.specs.Blocks.{block_count, pages_of, page_put}
use Rattle.history.specs.declared.op.Op.{Op}
use Rattle.history.specs.declared.op.Op.TheVariants as op
use Rattle.history.specs.declared.op.Edit.{Edit}
use Rattle.history.specs.declared.op.Edit.TheVariants.{Put, Patch}
use Rattle.history.specs.declared.op.Item.{Item}
use Rattle.history.specs.Apply.{is_same_fork, main_fork, page_at, edited, apply_item, apply_items, apply_act}
use Rattle.history.specs.Op.{act_of_op, IsReached, IsTidy, AreTidyItems}
use Rattle.history.proofs.Pushes.{all_first, all_rest, all_weaker}
use Rattle.page_frames.specs.Marks.{DirtyMarks, touched}
use Rattle.page_frames.specs.Framed.{Framed, ForkLengths}
use Rattle.page_frames.specs.Overlay.{pages_over, HasPlace, KeepsReserved, raised}
use Rattle.page_frames.proofs.Overlays.{count_over}
use Rattle.page_pool.specs.declared.ready.Done.{Done}
use Rattle.page_pool.specs.declared.ready.Done.TheVariants as done
use Rattle.page_pool.specs.declared.ready.NewPage.{NewPage}
use Rattle.page_pool.specs.declared.ready.Ready.{Ready}
use Rattle.page_pool.specs.declared.work.Pending.{Pending}
use Rattle.page_pool.specs.Part.{Part}
use Rattle.page_pool.specs.Steps.{items_touched, marks_after, works_after, HasApplied}
use Rattle.page_pool.specs.Ready.{IsOfOp, IsReady, HasRoomAt, HasRoomFor, done_at}
use Rattle.page_pool.specs.Inside.{ArePlaces, pages_touched, marks_done, works_done, MayBeDone}
use Rattle.command_judging.proofs.Judged.{put_some}
use Rattle.page_pool.proofs.Local.{count_put}

-- a fork is there where it has a length
pub there_over : (behind : BlockId → List ℕ) (f : Framed) (fork : ForkId) → contains_key (pages_over behind f) fork ≡ is_some (get f.lengths fork)
there_over behind f fork = by (get (pages_over behind f) fork) ∙ ap (λ (o : Option ℕ). is_some o) (count_over behind f fork)
  where
    by : (o : Option ForkPages) → is_some o ≡ is_some (option_map length o)
    by None = refl
    by (Some pages) = refl

-- ---- places

abbrev AreLengthsOf : ForkLengths → Store → Type 0
AreLengthsOf lengths store = (q : ForkId) → get lengths q ≡ block_count store q

up_to : (pages : ForkPages) (block : ℕ) (edit : Edit) → IsReached pages block edit → block ≤ length pages
up_to pages block (Put page) r = r
up_to pages block (Patch frags) r = omega (arith, r)

got_length : (m : ForkLengths) (k : ForkId) (v : ℕ) (q : ForkId) → get (insert m k v) q ≡ cond (is_same_fork q k) (Some v) (get m q)
unfolding is_same_fork
got_length m k v q = get-insert fork_cmp_total m k v q

-- lengths that are raised are those of the store with the page
raised_as : (lengths : ForkLengths) (store : Store) (at : BlockId) (page : List ℕ) → AreLengthsOf lengths store → AreLengthsOf (raised lengths at) (page_put at page store)
raised_as lengths store at page long q =
    got_length lengths at.fork (max (unwrap_or (get lengths at.fork) 0) (at.block + 1)) q
    ∙ ap (λ (k : ℕ). cond (is_same_fork q at.fork) (Some (max k (at.block + 1))) (get lengths q)) (ap (λ (o : Option ℕ). unwrap_or o 0) (long at.fork) ∙ by (get store at.fork))
    ∙ ap (λ (o : Option ℕ). cond (is_same_fork q at.fork) (Some (max (length (pages_of store at.fork)) (at.block + 1))) o) (long q)
    ∙ sym (count_put store at page q)
  where
    by : (o : Option ForkPages) → unwrap_or (option_map length o) 0 ≡ length (unwrap_or o [])
    by None = refl
    by (Some pages) = refl

places : (end : ℕ) (f : Framed) (lengths : ForkLengths) (store last : Store) (items : List Item) (pages : List NewPage) → AreLengthsOf lengths store → All (λ p. HasRoomAt f p.at) pages → AreTidyItems store items → apply_items end store items ≡ Some last → map (λ (i : Item). i.at) items ≡ map (λ (p : NewPage). p.at) pages → ArePlaces lengths pages
places end f lengths store last [] [] long room tidy e ats = tt
places end f lengths store last [] (new ∷ pages) long room tidy e ats = absurd cc
places end f lengths store last (item ∷ items) [] long room tidy e ats = absurd cc
places end f lengths store last (item ∷ items) (new ∷ pages) long room tidy e ats =
    let at : item.at ≡ new.at = ap (λ (xs : List BlockId). get_or xs 0 item.at) ats in
    let one = bind_some (apply_item end store item) (λ n. apply_items end n items) last e in
    let put = put_some (λ (page : List ℕ). page_put item.at page store) (edited end (page_at store item.at) item.edit) one.0 one.1 in
    let narrow = (all_first (λ (p : NewPage). HasRoomAt f p.at) new pages room).narrow in
    let place : HasPlace lengths item.at = record {
      count = length tidy.0.pages;
      long = long item.at.fork ∙ ap (option_map length) tidy.0.there;
      within = up_to tidy.0.pages item.at.block item.edit tidy.0.reached;
      narrow = omega (arith, narrow, ap (λ (a : BlockId). a.block) at);
    } in
    let longer : AreLengthsOf (raised lengths item.at) one.0 = subst (AreLengthsOf (raised lengths item.at)) (sym put.1) (raised_as lengths store item.at put.0 long) in
    subst (λ (a : BlockId). HasPlace lengths a × ArePlaces (raised lengths a) pages) at
    (place, places end f (raised lengths item.at) one.0 last items pages longer (all_rest (λ (p : NewPage). HasRoomAt f p.at) new pages room) (tidy.1 end one.0 one.1) one.2 (ap (drop 1) ats))

is_some_of : (o : Option ForkPages) (n : Option ℕ) (ps : ForkPages) → n ≡ option_map length o → o ≡ Some ps → IsSome n
is_some_of None n ps is e = absurd cc
is_some_of (Some qs) n ps is e = ap (λ (x : Option ℕ). is_some x) is

-- what is ready may be done
may_be_done : (end : ℕ) (part : Part) (command : Op) (ready : Ready) (made : Done) → AreLengthsOf part.framed.lengths part.frames → IsReady part command ready → end < 2 ^ 64 → ready.done ≡ made → MayBeDone part.framed part.work_room made
may_be_done end part command ready made long is fits e = go command made (subst (λ (d : Done). IsOfOp command d) e is.named) (subst (λ (d : Done). HasRoomFor f room d) e is.room) is.tidy (is.same end fits ∙ ap (λ (d : Done). Some (done_at end d part.frames)) e)
  where
    f : Framed
    f = part.framed

    room : ℕ
    room = part.work_room

    go : (command : Op) (made : Done) → IsOfOp command made → HasRoomFor f room made → IsTidy part.frames (act_of_op command) → apply_act end part.frames (act_of_op command) ≡ Some (done_at end made part.frames) → MayBeDone f room made
    go (op.Create fork) made named left tidy same = subst (MayBeDone f room) (sym named) (let r = subst (HasRoomFor f room) named left in (r.0, long fork ∙ ap (option_map length) tidy, r.1))
    go (op.Truncate rel count) made named left tidy same = subst (MayBeDone f room) (sym named) (is_some_of (get part.frames (main_fork rel)) (get f.lengths (main_fork rel)) tidy.pages (long (main_fork rel)) tidy.there, subst (HasRoomFor f room) named left)
    go (op.Change items) (done.Created fork) named left tidy same = absurd named
    go (op.Change items) (done.Cut rel count) named left tidy same = absurd named
    go (op.Change items) (done.Dropped rel) named left tidy same = absurd named
    go (op.Change items) (done.Put pages) named left tidy same = (places end f f.lengths part.frames _ items pages.items long left tidy same named, left)
    go (op.Drop rel) made named left tidy same = subst (MayBeDone f room) (sym named) (subst (HasRoomFor f room) named left)

pub ready_may_be_done : (end : ℕ) (part : Part) (command : Op) (ready : Ready) → AreLengthsOf part.framed.lengths part.frames → IsReady part command ready → end < 2 ^ 64 → MayBeDone part.framed part.work_room ready.done
ready_may_be_done end part command ready long is fits = may_be_done end part command ready ready.done long is fits refl

-- ---- what it leaves

marks_put : (end : ℕ) (marks : DirtyMarks) (items : List Item) (pages : List NewPage) → map (λ (i : Item). i.at) items ≡ map (λ (p : NewPage). p.at) pages → pages_touched end marks pages ≡ items_touched end marks items
marks_put end marks [] [] ats = refl
marks_put end marks [] (new ∷ pages) ats = absurd cc
marks_put end marks (item ∷ items) [] ats = absurd cc
marks_put end marks (item ∷ items) (new ∷ pages) ats =
    let at : item.at ≡ new.at = ap (λ (xs : List BlockId). get_or xs 0 item.at) ats in
    ap (λ (a : BlockId). pages_touched end (touched end marks a) pages) (sym at) ∙ marks_put end (touched end marks item.at) items pages (ap (drop 1) ats)

marks_as : (end : ℕ) (frames : Store) (marks : DirtyMarks) (command : Op) (made : Done) → IsOfOp command made → marks_done end frames marks made ≡ marks_after end frames marks (act_of_op command)
marks_as end frames marks (op.Create fork) made named = ap (marks_done end frames marks) named
marks_as end frames marks (op.Truncate rel count) made named = ap (marks_done end frames marks) named
marks_as end frames marks (op.Change items) (done.Created fork) named = absurd named
marks_as end frames marks (op.Change items) (done.Cut rel count) named = absurd named
marks_as end frames marks (op.Change items) (done.Dropped rel) named = absurd named
marks_as end frames marks (op.Drop rel) made named = ap (marks_done end frames marks) named
marks_as end frames marks (op.Change items) (done.Put pages) named = marks_put end marks items pages.items named

works_as : (end : ℕ) (frames : Store) (works : List Pending) (command : Op) (made : Done) → IsOfOp command made → works_done end frames works made ≡ works_after end frames works (act_of_op command)
works_as end frames works (op.Create fork) made named = ap (works_done end frames works) named
works_as end frames works (op.Truncate rel count) made named = ap (works_done end frames works) named
works_as end frames works (op.Change items) (done.Created fork) named = absurd named
works_as end frames works (op.Change items) (done.Cut rel count) named = absurd named
works_as end frames works (op.Change items) (done.Dropped rel) named = absurd named
works_as end frames works (op.Drop rel) made named = ap (works_done end frames works) named
works_as end frames works (op.Change items) (done.Put pages) named = refl

pub ready_is_applied : (end : ℕ) (old new : Part) (command : Op) (ready : Ready) → IsReady old command ready → end < 2 ^ 64
    → new.frames ≡ done_at end ready.done old.frames → new.marks ≡ marks_done end old.frames old.marks ready.done → new.works ≡ works_done end old.frames old.works ready.done → new.point ≡ old.point → new.disk ≡ old.disk
    → HasApplied end (act_of_op command) old new
ready_is_applied end old new command ready is fits frames marks works point disk = record {
  frames = is.same end fits ∙ ap (λ (s : Store). Some s) (sym frames);
  marks = marks ∙ marks_as end old.frames old.marks command ready.done is.named;
  works = works ∙ works_as end old.frames old.works command ready.done is.named;
  point = point;
  disk = disk;
}

-- ---- pages put in turn

pub room_kept : (old new : Framed) → KeepsReserved old new → (pages : List NewPage) → All (λ p. HasRoomAt old p.at) pages → All (λ p. HasRoomAt new p.at) pages
room_kept old new kept pages all = all_weaker (λ (p : NewPage). HasRoomAt old p.at) (λ (p : NewPage). HasRoomAt new p.at) pages (λ p has. record { reserved = kept.blocks p.at has.reserved; narrow = has.narrow }) all
