-- One page is put, and the others are left.
use Rattle.std.proofs.Common.{◌≡◌, ◌∷◌, List, sym, ap, subst, ◌∙◌, length, arith}
use Rattle.std.specs.List.{All}
use Rattle.std.specs.Vec.Iter.{into_iter_items}
use Rattle.lsn_core.specs.Store.{Store}
use Rattle.history.proofs.Pushes.{all_first, all_rest}
use Rattle.page_frames.specs.Framed.{ForkLengths}
use Rattle.page_frames.specs.Marks.{DirtyMarks}
use Rattle.page_frames.specs.Overlay.{pages_over, marks_over}
use Rattle.page_pool.specs.declared.ready.NewPage.{NewPage}
use Rattle.page_pool.specs.Ready.{HasRoomAt, pages_put}
use Rattle.page_pool.specs.Inside.{ArePlaces, pages_touched}
use Rattle.page_pool.proofs.Doing.{room_kept}
use Rattle.page_pool.proofs.checking.put_pages.Goals as goal

pub put_page-requires-clause-room : goal.put_page-requires-clause-room
put_page-requires-clause-room c =
    let now = c.loop-new in
    all_first (λ (p : NewPage). HasRoomAt now.frames p.at) c.in-Some.new (into_iter_items c.next.new.self) (subst (All (λ (p : NewPage). HasRoomAt now.frames p.at)) c.in-Some.ensures.steps.0 now.invariant.room)

pub put_page-requires-clause-place : goal.put_page-requires-clause-place
put_page-requires-clause-place c = (subst (ArePlaces c.loop-new.frames.lengths) c.in-Some.ensures.steps.0 c.loop-new.invariant.places).0

pub loop-new-preserved : goal.loop-new-preserved
loop-new-preserved c =
    let now = c.loop-new in
    let end = c.args.end.0 in
    let more = into_iter_items c.next.new.self in
    let steps : into_iter_items now.new-iterator ≡ c.in-Some.new ∷ more = c.in-Some.ensures.steps.0 in
    record {
      count = omega (arith, now.invariant.count, c.in-Some.ensures.steps.1, ap (λ (r : List NewPage). length r) steps);
      pages = λ behind. ap (λ (s : Store). pages_put end more s) (c.put_page.ensures.pages behind) ∙ sym (ap (λ (r : List NewPage). pages_put end r (pages_over behind now.frames)) steps) ∙ now.invariant.pages behind;
      marks = ap (λ (m : DirtyMarks). pages_touched end m more) c.put_page.ensures.marks ∙ sym (ap (λ (r : List NewPage). pages_touched end (marks_over now.frames) r) steps) ∙ now.invariant.marks;
      places = subst (λ (ls : ForkLengths). ArePlaces ls more) (sym c.put_page.ensures.lengths) (subst (ArePlaces now.frames.lengths) steps now.invariant.places).1;
      room = room_kept now.frames c.put_page.new.frames c.put_page.ensures.kept more
          (all_rest (λ (p : NewPage). HasRoomAt now.frames p.at) c.in-Some.new more (subst (All (λ (p : NewPage). HasRoomAt now.frames p.at)) steps now.invariant.room));
    }
