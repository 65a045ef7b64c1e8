use Rattle.core_machine.proofs.Showing.{clean_step}
use Rattle.core_machine.proofs.machine.Machine.clean.Goals as goal

pub returns : goal.returns
returns c s shown = clean_step c.args.self.now s c.args.part c.index-self-part.result c.clean.new.self c.redo_point-redo.result c.requires c.in_ok-clean.ensures c.redo_point-redo.ensures shown
