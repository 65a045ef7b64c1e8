use Rattle.std.proofs.Common.{refl}
use Rattle.store_finding.proofs.Moments.{unboxed_safely}
use Rattle.store_finding.proofs.found.find.Goals as goal

pub returns-in-Err-clause-stopped : goal.returns-in-Err-clause-stopped
returns-in-Err-clause-stopped g c told = unboxed_safely g.V.Vault c.args.areas c.args.areas refl

pub returns-in-Err-boxed-clause-stopped : goal.returns-in-Err-boxed-clause-stopped
returns-in-Err-boxed-clause-stopped g c told = unboxed_safely g.V.Vault c.args.areas c.in-Err-boxed.areas c.in-Err-boxed.ensures.back
