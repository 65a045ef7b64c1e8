use Rattle.history.proofs.fuzzy_copies.Frames.{tell_blocks, tell_forks}
use Rattle.history.proofs.fuzzy_copies.laws.effects_tell_stores.Goals as goal

pub returns-clause-blocks : goal.returns-clause-blocks
returns-clause-blocks c = tell_blocks

pub returns-clause-forks : goal.returns-clause-forks
returns-clause-forks c = tell_forks
