use Rattle.std.proofs.Common.{rules, ◌≡◌, ◌<◌, inl, inr, length, box_value, Option, None, is_some, true, true≢false, refl, sym, ap, subst, ◌∙◌, ⊎_elim}
use Rattle.std.specs.FinMap.{get, insert, len}
use Rattle.page_frames.specs.Framed.{Framed, Held, HeldFrames, AreFramed}
use Rattle.page_frames.specs.Overlay.{IsBlockOf}
use Rattle.page_frames.specs.Inside.{framed_in, held_in}
use Rattle.page_frames.proofs.Orders.{block_cmp_total}
use Rattle.page_frames.proofs.Keys.{put_here}
use Rattle.page_frames.proofs.Tables.{either, frame_there, frame_none}
use Rattle.page_frames.proofs.Reserving.{IsQueued, IsTaken, queued_framed, queued_pages, queued_marks, queued_held, queued_few, queued_kept, queued_reserved}
use Rattle.std.proofs.lemmas.Result.{on_ok_weaker}
use Rattle.page_frames.proofs.frames.Frames.reserve.Goals as goal

-- ---- the block has a frame

abbrev found_of : goal.Then-contains_key → Framed
found_of c = framed_in c.self.inside.lengths c.self.inside.frames c.enter_queue.new.queue c.self.inside.hand c.self.inside.limit

is_found : (c : goal.Then-contains_key) → IsQueued c.args.self.now (found_of c) c.args.at.now
is_found c = record {
  lengths = ap (λ (f : Framed). f.lengths) c.self.view_is;
  slots = ap (λ (f : Framed). f.slots) c.self.view_is;
  limit = ap (λ (f : Framed). f.limit) c.self.view_is;
  queue = c.in_ok-enter_queue.ensures.entered ∙ ap (λ (f : Framed). insert f.queue c.args.at.now true) c.self.view_is;
  held = inl (ap (λ (f : Framed). f.held) c.self.view_is);
}

pub invariant_of-self-then-contains_key : goal.invariant_of-self-then-contains_key
invariant_of-self-then-contains_key c = queued_framed c.args.self.now (found_of c) c.args.at.now (is_found c) (subst AreFramed c.self.view_is c.self.invariant)

pub returns-then-contains_key-clause-reserved : goal.returns-then-contains_key-clause-reserved
returns-then-contains_key-clause-reserved c = queued_reserved c.args.self.now (found_of c) c.args.at.now (is_found c) (frame_there c.self.inside.frames c.args.at.now c.if-contains_key.ensures)

pub returns-then-contains_key-clause-kept : goal.returns-then-contains_key-clause-kept
returns-then-contains_key-clause-kept c = queued_kept c.args.self.now (found_of c) c.args.at.now (is_found c)

-- ---- memory ran out for the page

abbrev failed_of : goal.After-from_residual-in_err-page → Framed
failed_of c = framed_in c.self.inside.lengths c.self.inside.frames c.enter_queue.new.queue c.self.inside.hand c.self.inside.limit

is_failed : (c : goal.After-from_residual-in_err-page) → IsQueued c.args.self.now (failed_of c) c.args.at.now
is_failed c = record {
  lengths = ap (λ (f : Framed). f.lengths) c.self.view_is;
  slots = ap (λ (f : Framed). f.slots) c.self.view_is;
  limit = ap (λ (f : Framed). f.limit) c.self.view_is;
  queue = c.in_ok-enter_queue.ensures.entered ∙ ap (λ (f : Framed). insert f.queue c.args.at.now true) c.self.view_is;
  held = inl (ap (λ (f : Framed). f.held) c.self.view_is);
}

pub invariant_of-self-in_err-page : goal.invariant_of-self-in_err-page
invariant_of-self-in_err-page c = queued_framed c.args.self.now (failed_of c) c.args.at.now (is_failed c) (subst AreFramed c.self.view_is c.self.invariant)

pub returns-in_err-page-clause-kept : goal.returns-in_err-page-clause-kept
returns-in_err-page-clause-kept c = queued_kept c.args.self.now (failed_of c) c.args.at.now (is_failed c)

-- ---- a frame was taken

abbrev next_of : goal.After-put_in → Framed
next_of c = framed_in c.self.inside.lengths c.put_in.new.frames c.enter_queue.new.queue c.self.inside.hand c.self.inside.limit

abbrev frame_of : goal.After-put_in → Held
frame_of c = record { page = box_value c.in_ok-page.page; mark = None; used = true }

no_frame : (c : goal.After-put_in) → get c.args.self.now.held c.args.at.now ≡ None
no_frame c = sym (ap (λ (f : Framed). get f.held c.args.at.now) c.self.view_is) ∙ frame_none c.self.inside.frames c.args.at.now c.if-contains_key.ensures

room : (c : goal.After-put_in) → (IsBlockOf c.args.self.now.lengths c.args.at.now → ⊥) × (len c.args.self.now.held < c.args.self.now.limit)
room c = ⊎_elim
    (λ some. absurd (true≢false (sym some ∙ ap (λ (o : Option Held). is_some o) (no_frame c))))
    (λ two. two)
    c.requires

is_taken : (c : goal.After-put_in) → held_in c.put_in.new.frames ≡ insert (held_in c.self.inside.frames) c.args.at.now (frame_of c) → IsTaken c.args.self.now (next_of c) c.args.at.now
is_taken c e =
    let size : length (box_value c.in_ok-page.page) ≡ 8192 = search rules in
    record {
      frame = frame_of c;
      held = e ∙ ap (λ (f : Framed). insert f.held c.args.at.now (frame_of c)) c.self.view_is;
      none = no_frame c;
      clean = refl;
      size = size;
      missing = (room c).0;
      left = (room c).1;
    }

is_next : (c : goal.After-put_in) → IsQueued c.args.self.now (next_of c) c.args.at.now
is_next c = record {
  lengths = ap (λ (f : Framed). f.lengths) c.self.view_is;
  slots = ap (λ (f : Framed). f.slots) c.self.view_is;
  limit = ap (λ (f : Framed). f.limit) c.self.view_is;
  queue = c.in_ok-enter_queue.ensures.entered ∙ ap (λ (f : Framed). insert f.queue c.args.at.now true) c.self.view_is;
  held = ⊎_elim (λ e. inr (is_taken c e)) (λ e. inl (e ∙ ap (λ (f : Framed). f.held) c.self.view_is)) (either c.put_in.result c.put_in.ensures.held c.put_in.ensures.same);
}

pub invariant_of-self-2 : goal.invariant_of-self-2
invariant_of-self-2 c = queued_framed c.args.self.now (next_of c) c.args.at.now (is_next c) (subst AreFramed c.self.view_is c.self.invariant)

pub returns-clause-reserved : goal.returns-clause-reserved
returns-clause-reserved c =
    on_ok_weaker c.put_in.result
    (λ e. queued_reserved c.args.self.now (next_of c) c.args.at.now (is_next c)
    (ap (λ (m : HeldFrames). is_some (get m c.args.at.now)) e ∙ ap (λ (o : Option Held). is_some o) (put_here block_cmp_total (held_in c.self.inside.frames) c.args.at.now (frame_of c))))
    c.put_in.ensures.held

pub returns-clause-kept : goal.returns-clause-kept
returns-clause-kept c = queued_kept c.args.self.now (next_of c) c.args.at.now (is_next c)

pub returns-clause-pages : goal.returns-clause-pages
returns-clause-pages c behind = queued_pages c.args.self.now (next_of c) c.args.at.now (is_next c) behind

pub returns-clause-marks : goal.returns-clause-marks
returns-clause-marks c = queued_marks c.args.self.now (next_of c) c.args.at.now (is_next c)

pub returns-clause-held : goal.returns-clause-held
returns-clause-held c = queued_held c.args.self.now (next_of c) c.args.at.now (is_next c)

pub returns-clause-few : goal.returns-clause-few
returns-clause-few c = queued_few c.args.self.now (next_of c) c.args.at.now (is_next c)
