use Rattle.std.proofs.Common.{None}
use Rattle.page_frames.proofs.Tables.{queue_put}
use Rattle.page_frames.proofs.frames.leave_queue.Goals as goal

pub returns : goal.returns
returns c = queue_put c.args.queue.now c.remove.new.self c.args.at.now None c.remove.ensures.updates
