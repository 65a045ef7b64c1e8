use Rattle.rel_files.proofs.KnownLengths.{forgotten}
use Rattle.rel_files.proofs.known.forget.Goals as goal

pub returns : goal.returns
returns c = forgotten c.args.known.now c.remove.new.self c.args.fork.now c.remove.ensures.updates
