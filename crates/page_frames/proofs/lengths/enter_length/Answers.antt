use Rattle.std.proofs.Common.{Some}
use Rattle.page_frames.proofs.Tables.{length_put}
use Rattle.page_frames.proofs.lengths.enter_length.Goals as goal

pub returns-clause-lengths : goal.returns-clause-lengths
returns-clause-lengths c = length_put c.args.lengths.now c.args.fork.now c.insert.new.self (Some (Some c.args.count)) c.in_ok-insert.ensures.updates
