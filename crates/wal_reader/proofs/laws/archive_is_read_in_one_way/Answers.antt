-- An archive is read in one way.
use Rattle.wal_reader.proofs.OneReading.{one_reading, ends_or_is_damaged, one_damage}
use Rattle.wal_reader.proofs.laws.archive_is_read_in_one_way.Goals as goal

pub returns-clause-reading : goal.returns-clause-reading
returns-clause-reading c = one_reading

pub returns-clause-ends : goal.returns-clause-ends
returns-clause-ends c = ends_or_is_damaged

pub returns-clause-damage : goal.returns-clause-damage
returns-clause-damage c = one_damage
