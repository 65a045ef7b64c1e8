use Rattle.std.proofs.Common.{refl}
use Rattle.page_frames.specs.Framed.{Framed}
use Rattle.page_frames.specs.Inside.{framed_in}
use Rattle.page_frames.proofs.Framing.{framed_turned}
use Rattle.page_frames.proofs.frames.Frames.sweep.Goals as goal

pub invariant_of-self : goal.invariant_of-self
invariant_of-self c =
    let was : Framed = framed_in c.self.inside.lengths c.self.inside.frames c.self.inside.queue c.self.inside.hand c.self.inside.limit in
    let next : Framed = framed_in c.self.inside.lengths c.pass.new.frames c.self.inside.queue c.in-Some.last c.self.inside.limit in
    framed_turned was next c.self.invariant refl refl refl c.pass.ensures
