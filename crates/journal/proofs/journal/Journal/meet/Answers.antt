use Rattle.std.proofs.Common.{refl}
use Rattle.journal.proofs.Tells.{keeps_as}
use Rattle.journal.proofs.journal.Journal.meet.Goals as goal

pub invariant_of-self : goal.invariant_of-self
invariant_of-self g c = (
  keeps_as g.V.Vault g.J.OfStore.tells c.self.inside.wal c.self.inside.wal c.self.inside.pen c.meet.new.pen c.self.inside.pages refl refl c.meet.ensures.same c.self.invariant.0,
  c.self.invariant.1,
)
