use Rattle.journal.proofs.Stands.{lawful_orderly}
use Rattle.journal.proofs.laws.lawful_is_orderly.Goals as goal

pub returns : goal.returns
returns c = lawful_orderly
