use Rattle.wal_archive.proofs.Judged.{record_is_fair}
use Rattle.wal_archive.proofs.laws.entries_are_fair.Goals as goal

pub returns : goal.returns
returns c = record_is_fair
