use Rattle.history.proofs.StoreMap.{unmade}
use Rattle.history.proofs.undo.unmake_in.Goals as goal

pub returns : goal.returns
returns c = unmade c.args.forks.now c.remove.new.self c.args.fork.now c.remove.ensures.updates
