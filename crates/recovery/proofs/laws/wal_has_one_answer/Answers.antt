use Rattle.recovery.proofs.OneWal.{one_wal}
use Rattle.recovery.proofs.laws.wal_has_one_answer.Goals as goal

pub returns : goal.returns
returns c = one_wal
