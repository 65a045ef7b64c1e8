use Rattle.std.proofs.Common.{◌≤◌, refl, sym, subst}
use Rattle.std.specs.FinMap.{len}
use Rattle.page_frames.specs.Framed.{Framed, HeldFrames}
use Rattle.page_frames.specs.Inside.{framed_in}
use Rattle.page_frames.proofs.Tables.{whole_remove, few_remove}
use Rattle.page_frames.proofs.Framing.{Whole, framed_frames, stays_gone}
use Rattle.page_frames.proofs.frames.Frames.give_up.Goals as goal

pub invariant_of-self : goal.invariant_of-self
invariant_of-self c =
    let was : Framed = framed_in c.self.inside.lengths c.self.inside.frames c.self.inside.queue c.self.inside.hand c.self.inside.limit in
    let next : Framed = framed_in c.self.inside.lengths c.take_out.new.frames c.leave_queue.new.queue c.self.inside.hand c.self.inside.limit in
    framed_frames was next c.self.invariant refl refl
    (subst Whole (sym c.take_out.ensures) (whole_remove was.held c.args.at.now c.self.invariant.whole))
    (subst (λ (h : HeldFrames). len h ≤ was.limit) (sym c.take_out.ensures) (few_remove was.held c.args.at.now was.limit c.self.invariant.few))
    (stays_gone was next c.args.at.now c.take_out.ensures c.leave_queue.ensures)
