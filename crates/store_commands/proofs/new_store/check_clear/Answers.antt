-- Looking whether an area is clear only reads it.
use Rattle.store_commands.proofs.new_store.check_clear.Goals as goal

pub returns-in-Ok-false-clause-wal : goal.returns-in-Ok-false-clause-wal
returns-in-Ok-false-clause-wal g c = record { files = c.is_clear.ensures.same; past = c.is_clear.ensures.quiet; faults = c.is_clear.ensures.cause.later }

pub returns-in-Err-clause-wal : goal.returns-in-Err-clause-wal
returns-in-Err-clause-wal g c = record { files = c.is_clear.ensures.same; past = c.is_clear.ensures.quiet; faults = c.is_clear.ensures.cause.later }

pub returns-in-Ok-true-is_clear-clause-wal : goal.returns-in-Ok-true-is_clear-clause-wal
returns-in-Ok-true-is_clear-clause-wal g c = record { files = c.is_clear.ensures.same; past = c.is_clear.ensures.quiet; faults = c.is_clear.ensures.cause.later }

pub returns-in-Ok-true-is_clear-clause-sums : goal.returns-in-Ok-true-is_clear-clause-sums
returns-in-Ok-true-is_clear-clause-sums g c = record { files = c.is_clear-2.ensures.same; past = c.is_clear-2.ensures.quiet; faults = c.is_clear-2.ensures.cause.later }

pub returns-in-Ok-false-is_clear-clause-wal : goal.returns-in-Ok-false-is_clear-clause-wal
returns-in-Ok-false-is_clear-clause-wal g c = record { files = c.is_clear.ensures.same; past = c.is_clear.ensures.quiet; faults = c.is_clear.ensures.cause.later }

pub returns-in-Ok-false-is_clear-clause-sums : goal.returns-in-Ok-false-is_clear-clause-sums
returns-in-Ok-false-is_clear-clause-sums g c = record { files = c.is_clear-2.ensures.same; past = c.is_clear-2.ensures.quiet; faults = c.is_clear-2.ensures.cause.later }

pub returns-in-Err-is_clear-clause-wal : goal.returns-in-Err-is_clear-clause-wal
returns-in-Err-is_clear-clause-wal g c = record { files = c.is_clear.ensures.same; past = c.is_clear.ensures.quiet; faults = c.is_clear.ensures.cause.later }

pub returns-in-Err-is_clear-clause-sums : goal.returns-in-Err-is_clear-clause-sums
returns-in-Err-is_clear-clause-sums g c = record { files = c.is_clear-2.ensures.same; past = c.is_clear-2.ensures.quiet; faults = c.is_clear-2.ensures.cause.later }
