-- A WAL is read from the start of each of its entries on as it is from its beginning.
use Rattle.wal_reader.proofs.wal_pieces.Onwards.{entry_found, goes_on, rest_read}
use Rattle.backup_restore.proofs.laws.reading_goes_on_from_entries.Goals as goal

pub returns-clause-found : goal.returns-clause-found
returns-clause-found c = entry_found

pub returns-clause-on : goal.returns-clause-on
returns-clause-on c = goes_on

pub returns-clause-rest : goal.returns-clause-rest
returns-clause-rest c = rest_read
