-- A truncation takes away what it cuts off.
use Rattle.std.proofs.Common.{ap, ◌∙◌}
use Rattle.lsn_core.specs.Blocks.{block_count}
use Rattle.page_frames.specs.Overlay.{own_pages}
use Rattle.command_judging.proofs.Counted.{counted_cut}
use Rattle.command_judging.proofs.judge.judge_cut.Goals as goal

pub returns-in-Some-2-clause-counted : goal.returns-in-Some-2-clause-counted
returns-in-Some-2-clause-counted c =
    counted_cut (own_pages c.args.frames.now) c.args.rel c.args.blocks c.in-Some.length _ (c.in-Some.ensures.count ∙ ap (block_count (own_pages c.args.frames.now)) c.main_fork.ensures) c.if-blocks-gt-MOST_BLOCKS.false.0 c.from-gone.ensures
