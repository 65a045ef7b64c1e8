use Rattle.journal.proofs.Tells.{last_of_view}
use Rattle.journal.proofs.journal.Journal.tip.Goals as goal

pub returns-clause-last : goal.returns-clause-last
returns-clause-last g c = last_of_view g.V.Vault g.J.OfStore.tells c.args.self.now c.self.inside.wal c.self.inside.pen c.self.inside.pages c.self.view_is c.self.invariant.0
