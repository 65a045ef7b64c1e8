use Rattle.std.proofs.Common.{◌≡◌, true}
use Rattle.crew.specs.Run.{basis_of}
use Rattle.crew.proofs.Summed.{published, failed}
use Rattle.crew.proofs.summaries.summarise.Goals as goal

pub returns-in-Ok : goal.returns-in-Ok
returns-in-Ok g c =
    published (g.J.OfStore.tells ≡ true) (basis_of g.J.OfCrew.settings c.args.when g.J.OfCrew.found g.J.OfCrew.sums g.J.OfRetention.limit) c.args.pass.now c.advance.new.pass c.in-Ok.count c.in-Ok.ensures.published c.advance.ensures.looks

pub returns-in-Err : goal.returns-in-Err
returns-in-Err g c =
    failed (g.J.OfStore.tells ≡ true) (basis_of g.J.OfCrew.settings c.args.when g.J.OfCrew.found g.J.OfCrew.sums g.J.OfRetention.limit) c.args.pass.now c.advance.new.pass c.in-Err.why c.advance.ensures.looks c.in-Err.ensures.faults
