use Rattle.scripts.proofs.Apart.{scripts_are_apart}
use Rattle.scripts.proofs.laws.scripts_are_apart.Goals as goal

pub returns : goal.returns
returns c = scripts_are_apart
