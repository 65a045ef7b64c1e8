use Rattle.std.proofs.Common.{Some}
use Rattle.page_frames.proofs.Tables.{frame_put}
use Rattle.page_frames.proofs.frames.put_in.Goals as goal

pub returns-clause-held : goal.returns-clause-held
returns-clause-held c = frame_put c.args.frames.now c.insert.new.self c.args.at.now (Some _) c.in_ok-insert.ensures.updates
