use Rattle.history.proofs.fuzzy_copies.Covering.{added, writes}
use Rattle.history.proofs.fuzzy_copies.disks.covers_are_kept.Goals as goal

pub returns-clause-added : goal.returns-clause-added
returns-clause-added c = added

pub returns-clause-written : goal.returns-clause-written
returns-clause-written c = writes
