-- A drop takes away the pages of both forks.
use Rattle.std.proofs.Common.{◌+◌, length, refl, ap, ◌∙◌}
use Rattle.lsn_core.specs.declared.ids.ForkId.{ForkId}
use Rattle.lsn_core.specs.Blocks.{pages_of}
use Rattle.page_frames.specs.Overlay.{own_pages}
use Rattle.command_judging.proofs.Counted.{counted_drop}
use Rattle.command_judging.proofs.judge.judge_drop.Goals as goal

pub returns-clause-counted : goal.returns-clause-counted
returns-clause-counted c =
    counted_drop (own_pages c.args.frames.now) c.args.rel (c.pages_in.result + c.pages_in-2.result) c.pages_in.result c.pages_in-2.result
    (c.pages_in.ensures.count ∙ ap (λ (f : ForkId). length (pages_of (own_pages c.args.frames.now) f)) c.main_fork-2.ensures)
    (c.pages_in-2.ensures.count ∙ ap (λ (f : ForkId). length (pages_of (own_pages c.args.frames.now) f)) c.init_fork-2.ensures) refl
