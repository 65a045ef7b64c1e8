-- An archive is read in one way.
use Rattle.wal_reader.proofs.OneReading.{one_reading_from, ends_or_is_damaged_from, one_damage_from}
use Rattle.wal_reader.proofs.laws.archive_is_read_in_one_way_from_a_place.Goals as goal

pub returns-clause-reading : goal.returns-clause-reading
returns-clause-reading c = one_reading_from

pub returns-clause-ends : goal.returns-clause-ends
returns-clause-ends c = ends_or_is_damaged_from

pub returns-clause-damage : goal.returns-clause-damage
returns-clause-damage c = one_damage_from
