-- Each item is judged behind those before it.
use Rattle.page_frames.specs.Overlay.{own_pages}
use Rattle.command_judging.proofs.Walk.{walk_begun, walk_on}
use Rattle.command_judging.proofs.judge.judge_items.Goals as goal

pub loop-at-init : goal.loop-at-init
loop-at-init c = walk_begun (own_pages c.args.frames.now) c.args.items.now c.requires

pub loop-at-preserved : goal.loop-at-preserved
loop-at-preserved c =
    let walked = c.loop-at.invariant in
    walk_on (own_pages c.args.frames.now) c.args.items.now c.loop-at.at c.loop-at.added c.index-items-at.result c.loop-at-test.true c.index-items-at.is walked c.in_ok-added.field-0
    (c.in_ok-added.ensures.judged walked.store walked.behind) (c.in_ok-added.ensures.added walked.store walked.behind)
