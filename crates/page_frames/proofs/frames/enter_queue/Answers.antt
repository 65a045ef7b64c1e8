use Rattle.std.proofs.Common.{Some}
use Rattle.page_frames.proofs.Tables.{queue_put}
use Rattle.page_frames.proofs.frames.enter_queue.Goals as goal

pub returns-clause-entered : goal.returns-clause-entered
returns-clause-entered c = queue_put c.args.queue.now c.insert.new.self c.args.at.now (Some tt) c.in_ok-insert.ensures.updates
