use Rattle.wal_pages.proofs.Starts.{starts_aligned, ends_aligned, ends_numbered}
use Rattle.wal_pages.proofs.laws.entries_stand_at_multiples_of_eight.Goals as goal

pub returns-clause-starts : goal.returns-clause-starts
returns-clause-starts c = starts_aligned

pub returns-clause-ends : goal.returns-clause-ends
returns-clause-ends c = ends_aligned

pub returns-clause-numbers : goal.returns-clause-numbers
returns-clause-numbers c = ends_numbered
