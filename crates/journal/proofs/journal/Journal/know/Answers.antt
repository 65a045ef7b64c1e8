use Rattle.journal.proofs.Tells.{known_of_view}
use Rattle.journal.proofs.journal.Journal.know.Goals as goal

pub returns : goal.returns
returns g c = known_of_view g.V.Vault g.J.OfStore.tells c.args.self.now c.self.inside.wal c.self.inside.pen c.self.inside.pages c.self.view_is c.self.invariant.0
