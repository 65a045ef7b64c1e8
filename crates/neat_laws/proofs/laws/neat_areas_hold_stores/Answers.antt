use Rattle.neat_laws.proofs.Kept.{own_kept, neat_areas}
use Rattle.neat_laws.proofs.laws.neat_areas_hold_stores.Goals as goal

pub returns-clause-kept : goal.returns-clause-kept
returns-clause-kept g c = own_kept g.V.Vault

pub returns-clause-held : goal.returns-clause-held
returns-clause-held g c = neat_areas g.V.Vault
