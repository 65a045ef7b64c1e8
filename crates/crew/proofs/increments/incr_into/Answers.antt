use Rattle.std.proofs.Common.{◌≡◌, true}
use Rattle.incr_backup.specs.Incr.{incr_site}
use Rattle.crew.specs.Run.{basis_of}
use Rattle.crew.proofs.Incremented.{taken, refused}
use Rattle.crew.proofs.increments.incr_into.Goals as goal

pub returns-in-Ok-clause-runs : goal.returns-in-Ok-clause-runs
returns-in-Ok-clause-runs g c = λ other.
    taken g.V.Vault (g.J.OfStore.tells ≡ true) (basis_of g.J.OfCrew.settings c.args.when g.J.OfCrew.found g.J.OfCrew.sums g.J.OfRetention.limit) c.args.name.now other (incr_site c.args.pass.now c.args.prior.now.area c.args.out.now.area)
    (incr_site c.take_incr.new.pass c.take_incr.new.prior c.take_incr.new.out) c.in-Ok.done c.in-Ok.ensures.answer c.take_incr.ensures.looks c.take_incr.ensures.later c.take_incr.ensures.prior

pub returns-in-Err-clause-runs : goal.returns-in-Err-clause-runs
returns-in-Err-clause-runs g c = λ other.
    refused g.V.Vault (g.J.OfStore.tells ≡ true) (basis_of g.J.OfCrew.settings c.args.when g.J.OfCrew.found g.J.OfCrew.sums g.J.OfRetention.limit) c.args.name.now other (incr_site c.args.pass.now c.args.prior.now.area c.args.out.now.area)
    (incr_site c.take_incr.new.pass c.take_incr.new.prior c.take_incr.new.out) c.in-Err.why c.in-Err.ensures.answer c.take_incr.ensures.looks c.take_incr.ensures.later c.take_incr.ensures.prior
