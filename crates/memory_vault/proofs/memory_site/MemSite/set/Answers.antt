use Rattle.std.proofs.Common.{refl}
use Rattle.memory_vault.specs.MemorySite.{areas_of}
use Rattle.vault.proofs.SetAreas.{home_after}
use Rattle.memory_vault.proofs.memory_site.MemSite.set.Goals as goal

pub returns-clause-home : goal.returns-clause-home
returns-clause-home c = home_after c.set.result (areas_of c.args.self.now) _ c.args.name.now _ c.set.ensures.placed c.set.ensures.same refl
