use Rattle.std.proofs.Common.{None}
use Rattle.page_frames.proofs.Tables.{frame_put}
use Rattle.page_frames.proofs.frames.take_out.Goals as goal

pub returns : goal.returns
returns c = frame_put c.args.frames.now c.remove.new.self c.args.at.now None c.remove.ensures.updates
