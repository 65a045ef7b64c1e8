-- A store that was found is begun, or its areas are handed back.
use Rattle.crew.proofs.Held.{later_same}
use Rattle.run_command.proofs.running.run_found.Goals as goal

pub returns-in-Err-clause-later : goal.returns-in-Err-clause-later
returns-in-Err-clause-later g c = later_same g.V.Vault c.args.held.now.items
