use Rattle.std.proofs.Common.{arith, ◌+◌}
use Rattle.incr_file.proofs.Plans.{listed_found}
use Rattle.incr_file.proofs.plan.listed_blocks.Goals as goal

pub returns-clause-listed : goal.returns-clause-listed
returns-clause-listed c = (listed_found c.args.first c.args.planned (c.from.result + c.from-2.result) c.args.blocks.now c.blocks_from.result.now c.blocks_below.result.now c.requires (omega arith) c.blocks_from.ensures.from c.blocks_below.ensures).are

pub returns-clause-rising : goal.returns-clause-rising
returns-clause-rising c = (listed_found c.args.first c.args.planned (c.from.result + c.from-2.result) c.args.blocks.now c.blocks_from.result.now c.blocks_below.result.now c.requires (omega arith) c.blocks_from.ensures.from c.blocks_below.ensures).rising

pub returns-clause-behind : goal.returns-clause-behind
returns-clause-behind c = (listed_found c.args.first c.args.planned (c.from.result + c.from-2.result) c.args.blocks.now c.blocks_from.result.now c.blocks_below.result.now c.requires (omega arith) c.blocks_from.ensures.from c.blocks_below.ensures).behind

pub returns-clause-most : goal.returns-clause-most
returns-clause-most c = (listed_found c.args.first c.args.planned (c.from.result + c.from-2.result) c.args.blocks.now c.blocks_from.result.now c.blocks_below.result.now c.requires (omega arith) c.blocks_from.ensures.from c.blocks_below.ensures).most
