use Rattle.lsn_core.proofs.StoreFiles.{distinct_files, held}
use Rattle.lsn_core.proofs.laws.store_files_are_distinct.Goals as goal

pub returns-clause-distinct : goal.returns-clause-distinct
returns-clause-distinct c = distinct_files

pub returns-clause-hold : goal.returns-clause-hold
returns-clause-hold c = held
