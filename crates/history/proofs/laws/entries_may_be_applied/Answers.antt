use Rattle.history.proofs.Applicable.{sound_may, writable_may}
use Rattle.history.proofs.laws.entries_may_be_applied.Goals as goal

pub returns-clause-read : goal.returns-clause-read
returns-clause-read c = sound_may

pub returns-clause-written : goal.returns-clause-written
returns-clause-written c = writable_may
