use Rattle.journal.proofs.Goes.{lawful_goes}
use Rattle.journal.proofs.laws.lawful_goes_on.Goals as goal

pub returns : goal.returns
returns c = lawful_goes
