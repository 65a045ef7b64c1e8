use Rattle.neat_laws.proofs.Held.{neat_held}
use Rattle.neat_laws.proofs.laws.neat_files_hold_stores.Goals as goal

pub returns : goal.returns
returns c = neat_held
