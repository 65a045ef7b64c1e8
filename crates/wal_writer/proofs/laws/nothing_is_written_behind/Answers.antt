use Rattle.wal_writer.proofs.Rest.{rest_written, rest_kept, rest_settled, rest_read}
use Rattle.wal_writer.proofs.laws.nothing_is_written_behind.Goals as goal

pub returns-clause-files : goal.returns-clause-files
returns-clause-files c = rest_written

pub returns-clause-moments : goal.returns-clause-moments
returns-clause-moments c = rest_kept

pub returns-clause-settled : goal.returns-clause-settled
returns-clause-settled c = rest_settled

pub returns-clause-read : goal.returns-clause-read
returns-clause-read c = rest_read
