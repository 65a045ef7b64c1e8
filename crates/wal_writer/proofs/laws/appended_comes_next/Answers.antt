use Rattle.wal_writer.proofs.NextRead.{next_comes}
use Rattle.wal_writer.proofs.laws.appended_comes_next.Goals as goal

pub returns : goal.returns
returns c = next_comes
