use Rattle.std.proofs.Common.{None}
use Rattle.page_frames.proofs.Tables.{length_put, slot_put}
use Rattle.page_frames.proofs.lengths.remove_length.Goals as goal

pub returns-clause-lengths : goal.returns-clause-lengths
returns-clause-lengths c = length_put c.args.lengths.now c.args.fork.now c.remove.new.self None c.remove.ensures.updates

pub returns-clause-slots : goal.returns-clause-slots
returns-clause-slots c = slot_put c.args.lengths.now c.args.fork.now c.remove.new.self None c.remove.ensures.updates
