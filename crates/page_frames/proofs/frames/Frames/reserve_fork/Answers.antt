use Rattle.std.proofs.Common.{refl}
use Rattle.page_frames.specs.Framed.{Framed}
use Rattle.page_frames.specs.Inside.{framed_in}
use Rattle.page_frames.proofs.Holding.{alike_self}
use Rattle.page_frames.proofs.Framing.{framed_turned}
use Rattle.page_frames.proofs.frames.Frames.reserve_fork.Goals as goal

pub invariant_of-self : goal.invariant_of-self
invariant_of-self c =
    let was : Framed = framed_in c.self.inside.lengths c.self.inside.frames c.self.inside.queue c.self.inside.hand c.self.inside.limit in
    let next : Framed = framed_in c.enter_slot.new.lengths c.self.inside.frames c.self.inside.queue c.self.inside.hand c.self.inside.limit in
    framed_turned was next c.self.invariant c.enter_slot.ensures.lengths refl refl (alike_self was.held)
