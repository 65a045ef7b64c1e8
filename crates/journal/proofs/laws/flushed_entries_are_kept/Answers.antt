use Rattle.journal.proofs.Flushes.{flushed_is_kept}
use Rattle.journal.proofs.laws.flushed_entries_are_kept.Goals as goal

pub returns : goal.returns
returns c = flushed_is_kept
