use Rattle.history.proofs.fuzzy_copies.Records.{records_complete}
use Rattle.history.proofs.fuzzy_copies.Replay.{replay_completes}
use Rattle.history.proofs.fuzzy_copies.laws.replay_completes_copies.Goals as goal

pub returns-clause-entries : goal.returns-clause-entries
returns-clause-entries c = replay_completes

pub returns-clause-records : goal.returns-clause-records
returns-clause-records c = records_complete
