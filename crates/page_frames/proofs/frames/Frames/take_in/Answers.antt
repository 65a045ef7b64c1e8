use Rattle.std.proofs.Common.{rules, ◌≡◌, ◌<◌, ◌≤◌, box_value, None, length, true, refl, sym, subst, ⊎_elim}
use Rattle.std.specs.FinMap.{len}
use Rattle.page_frames.specs.Framed.{Framed, Held, HeldFrames}
use Rattle.page_frames.specs.Inside.{framed_in}
use Rattle.page_frames.proofs.Tables.{either, whole_insert, few_insert}
use Rattle.page_frames.proofs.Holding.{alike_self}
use Rattle.page_frames.proofs.Framing.{Whole, StaysQueued, framed_frames, stays_put, stays_alike}
use Rattle.page_frames.proofs.frames.Frames.take_in.Goals as goal

pub invariant_of-self : goal.invariant_of-self
invariant_of-self c =
    let was : Framed = framed_in c.self.inside.lengths c.self.inside.frames c.self.inside.queue c.self.inside.hand c.self.inside.limit in
    let next : Framed = framed_in c.self.inside.lengths c.put_in.new.frames c.self.inside.queue c.self.inside.hand c.self.inside.limit in
    let frame : Held = record { page = box_value c.args.page; mark = None; used = true } in
    let room : len was.held < was.limit = subst (λ (f : Framed). len f.held < f.limit) (sym c.self.view_is) c.requires in
    let size : length (box_value c.args.page) ≡ 8192 = search rules in
    ⊎_elim
    (λ e. framed_frames was next c.self.invariant refl refl
    (subst Whole (sym e) (whole_insert was.held c.args.at.now frame size c.self.invariant.whole))
    (subst (λ (h : HeldFrames). len h ≤ was.limit) (sym e) (few_insert was.held c.args.at.now frame was.limit room))
    (stays_put was next c.args.at.now frame e refl (λ q there apart. there)))
    (λ e. framed_frames was next c.self.invariant refl refl
    (subst Whole (sym e) c.self.invariant.whole)
    (subst (λ (h : HeldFrames). len h ≤ was.limit) (sym e) c.self.invariant.few)
    (subst (λ (h : HeldFrames). StaysQueued was (record { lengths = was.lengths; slots = was.slots; held = h; queue = was.queue; hand = was.hand; limit = was.limit })) (sym e) (stays_alike was was (alike_self was.held) refl)))
    (either c.put_in.result c.put_in.ensures.held c.put_in.ensures.same)
