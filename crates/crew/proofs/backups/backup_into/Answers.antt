use Rattle.std.proofs.Common.{◌≡◌, true}
use Rattle.crew.specs.Run.{basis_of}
use Rattle.crew.proofs.Backed.{taken, refused}
use Rattle.crew.proofs.backups.backup_into.Goals as goal

pub returns-in-Ok-clause-runs : goal.returns-in-Ok-clause-runs
returns-in-Ok-clause-runs g c =
    taken g.V.Vault (g.J.OfStore.tells ≡ true) (basis_of g.J.OfCrew.settings c.args.when g.J.OfCrew.found g.J.OfCrew.sums g.J.OfRetention.limit) c.args.name.now c.args.pass.now c.take_full.new.pass c.args.area.now c.take_full.new.out c.in-Ok.done
    c.in-Ok.ensures.taken c.in-Ok.ensures.synced c.in-Ok.ensures.empty c.take_full.ensures.looks c.take_full.ensures.later

pub returns-in-Err-clause-runs : goal.returns-in-Err-clause-runs
returns-in-Err-clause-runs g c =
    refused g.V.Vault (g.J.OfStore.tells ≡ true) (basis_of g.J.OfCrew.settings c.args.when g.J.OfCrew.found g.J.OfCrew.sums g.J.OfRetention.limit) c.args.name.now c.args.pass.now c.take_full.new.pass c.args.area.now c.take_full.new.out c.in-Err.why
    c.in-Err.ensures.looked c.in-Err.ensures.kept c.in-Err.ensures.manifest c.in-Err.ensures.cause c.take_full.ensures.looks c.take_full.ensures.later
