use Rattle.history.proofs.fuzzy_copies.Summaries.{unlisted_stand, limits_tell, below_limits}
use Rattle.history.proofs.fuzzy_copies.increments.summaries_tell_blocks.Goals as goal

pub returns-clause-unlisted : goal.returns-clause-unlisted
returns-clause-unlisted c = unlisted_stand

pub returns-clause-created : goal.returns-clause-created
returns-clause-created c = limits_tell

pub returns-clause-below : goal.returns-clause-below
returns-clause-below c = below_limits
