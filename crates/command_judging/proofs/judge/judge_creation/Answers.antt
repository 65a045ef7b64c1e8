-- A creation adds no page.
use Rattle.page_frames.specs.Overlay.{own_pages}
use Rattle.command_judging.proofs.Counted.{counted_creation}
use Rattle.command_judging.proofs.judge.judge_creation.Goals as goal

pub returns-in-None-clause-counted : goal.returns-in-None-clause-counted
returns-in-None-clause-counted c = counted_creation (own_pages c.args.frames.now) c.args.fork.now
