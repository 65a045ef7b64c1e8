use Rattle.journal.proofs.Rests.{rests_flushed}
use Rattle.journal.proofs.Tells.{keeps_flushed}
use Rattle.journal.proofs.journal.Journal.flush_to.Goals as goal

pub invariant_of-self : goal.invariant_of-self
invariant_of-self g c = (
  keeps_flushed g.V.Vault g.J.OfStore.tells c.args.self.now c.self.inside.wal c.flush_to.new.self c.self.inside.pen c.self.inside.pages c.args.to.0 c.flush_to.result c.self.view_is c.tip-tip.ensures.known
      c.flush_to.ensures.idle c.flush_to.ensures.flushed c.flush_to.ensures.stands c.flush_to.ensures.left c.requires.place c.self.invariant.0,
  rests_flushed g.V.Vault c.self.inside.wal c.flush_to.new.self c.args.to.0 c.flush_to.result c.flush_to.ensures.idle c.flush_to.ensures.succeeds c.flush_to.ensures.flushed c.flush_to.ensures.stands c.self.invariant.1,
)
