use Rattle.page_frames.specs.Framed.{HoldsAlike}
use Rattle.page_frames.specs.Inside.{held_in}
use Rattle.page_frames.proofs.sweep.pass.Given as goal

abbrev pub invariant-loop : goal.invariant-loop
invariant-loop l = HoldsAlike (held_in l.fn.frames) (held_in l.frames)
