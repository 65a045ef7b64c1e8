use Rattle.std.proofs.Common.{subst}
use Rattle.page_pool.specs.Part.{Part}
use Rattle.page_pool.specs.Calls.{IsHeld, AreWholePages}
use Rattle.page_pool.proofs.Parted.{known, whole_pages}
use Rattle.page_pool.proofs.partition.Partition.redo_point.Goals as goal

pub returns-clause-known : goal.returns-clause-known
returns-clause-known g c = subst IsHeld c.self.view_is (known g.V.Vault c.self.inside c.self.invariant)

pub returns-clause-whole : goal.returns-clause-whole
returns-clause-whole g c = subst (λ (x : Part). AreWholePages x.frames) c.self.view_is (whole_pages g.V.Vault c.self.inside c.know.ensures c.self.invariant)
