use Rattle.summary_text.proofs.Running.{none_taken}
use Rattle.summary_text.proofs.runs.block_runs.Goals as goal

pub loop-block-init : goal.loop-block-init
loop-block-init c = none_taken c.new-runs.result.items c.args.blocks.now c.new-runs.ensures.items
