use Rattle.journal.proofs.Begun.{tips_count}
use Rattle.journal.proofs.laws.tips_count_entries.Goals as goal

pub returns : goal.returns
returns c = tips_count
