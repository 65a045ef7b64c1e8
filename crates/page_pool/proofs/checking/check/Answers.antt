-- A command that nothing refuses can be made, and what was made is what it does.
use Rattle.std.proofs.Common.{sym, subst}
use Rattle.page_frames.specs.Overlay.{own_pages}
use Rattle.page_pool.specs.Room.{HasFrames}
use Rattle.command_judging.proofs.Judged.{judged-fit}
use Rattle.page_pool.proofs.Readied.{made_blocks, made_narrow}
use Rattle.page_pool.proofs.checking.check.Goals as goal

pub make-requires : goal.make-requires
make-requires c = judged-fit (own_pages c.args.frames.now) c.args.op.now c.requires.items (sym c.in_ok-counts.ensures.judged)

pub reserve-requires-clause-frames : goal.reserve-requires-clause-frames
reserve-requires-clause-frames c = subst (λ (blocks : _). HasFrames c.args.frames.now blocks) (sym (made_blocks (own_pages c.args.frames.now) c.args.op.now c.in_ok-made.made.done c.in_ok-made.ensures.done)) c.requires.room

pub reserve-requires-clause-narrow : goal.reserve-requires-clause-narrow
reserve-requires-clause-narrow c = made_narrow (own_pages c.args.frames.now) c.args.op.now c.in_ok-made.made.done c.requires.items (sym c.in_ok-counts.ensures.judged) c.in_ok-made.ensures.done

pub returns-clause-found : goal.returns-clause-found
returns-clause-found c = record {
  free = sym c.in_ok-counts.ensures.judged;
  done = c.in_ok-made.ensures.done;
  good = c.in_ok-made.ensures.good;
  kind = c.in_ok-made.ensures.kind;
  writable = c.in_ok-made.ensures.writable;
  counted = c.in_ok-counts.ensures.counted;
  left = c.in_ok-reserve.ensures.room;
}
