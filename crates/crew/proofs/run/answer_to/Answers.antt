use Rattle.std.proofs.Common.{subst}
use Rattle.scripts.specs.declared.script.Command.{Command}
use Rattle.crew.specs.Backups.{area_asked, AreHeld}
use Rattle.scripts.specs.Named.{HasOtherPrior}
use Rattle.crew.proofs.Held.{later_same}
use Rattle.crew.proofs.run.answer_to.Goals as goal

pub full-requires-clause-held : goal.full-requires-clause-held
full-requires-clause-held g c κs within = subst (λ (cmd : Command). AreHeld (area_asked cmd) c.args.held.now) c.in-Full.is c.requires.held

pub incr-requires-clause-held : goal.incr-requires-clause-held
incr-requires-clause-held g c κs within = subst (λ (cmd : Command). AreHeld (area_asked cmd) c.args.held.now) c.in-Incr.is c.requires.held

pub incr-requires-clause-apart : goal.incr-requires-clause-apart
incr-requires-clause-apart g c κs within = subst (λ (cmd : Command). HasOtherPrior cmd) c.in-Incr.is c.requires.prior

pub returns-in-Insert-clause-later : goal.returns-in-Insert-clause-later
returns-in-Insert-clause-later g c = later_same g.V.Vault c.args.held.now

pub returns-in-Grow-clause-later : goal.returns-in-Grow-clause-later
returns-in-Grow-clause-later g c = later_same g.V.Vault c.args.held.now

pub returns-in-Checkpoint-clause-later : goal.returns-in-Checkpoint-clause-later
returns-in-Checkpoint-clause-later g c = later_same g.V.Vault c.args.held.now

pub returns-in-Flush-clause-later : goal.returns-in-Flush-clause-later
returns-in-Flush-clause-later g c = later_same g.V.Vault c.args.held.now

pub returns-in-Summarise-clause-later : goal.returns-in-Summarise-clause-later
returns-in-Summarise-clause-later g c = later_same g.V.Vault c.args.held.now
