use Rattle.rel_files.proofs.Alike.{hold_alike}
use Rattle.rel_files.proofs.forks.Forks.know_all.Goals as goal

pub returns : goal.returns
returns g c = hold_alike g.V.Vault c.args.self.now c.blocks-some.ensures.range.least
