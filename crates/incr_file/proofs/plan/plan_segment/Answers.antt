use Rattle.incr_file.proofs.Plans.{told_written}
use Rattle.incr_file.proofs.plan.plan_segment.Goals as goal

pub returns-clause-head : goal.returns-clause-head
returns-clause-head c =
    λ seg fit. told_written c.args.relseg c.args.first c.args.planned c.args.limit c.args.blocks.now c.listed_blocks-listed.result.now c.in_ok-blocks.blocks c.truncation_length-truncation.result seg fit c.requires c.truncation_length-truncation.ensures c.listed_blocks-listed.ensures.listed c.in_ok-blocks.ensures
