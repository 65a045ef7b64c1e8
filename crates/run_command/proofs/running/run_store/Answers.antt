-- A store that was found on areas, or why none was.
use Rattle.std.specs.Prelude.{box_value}
use Rattle.crew.proofs.Held.{later_same}
use Rattle.summary_store.specs.Expiry.{age_limit}
use Rattle.run_command.proofs.Crews.{ends_on}
use Rattle.run_command.proofs.running.run_store.Goals as goal

pub returns-in-Ok-clause-runs : goal.returns-in-Ok-clause-runs
returns-in-Ok-clause-runs g c =
    ends_on g.V.Vault c.args.when (age_limit c.args.days c.args.when) c.args.areas c.run_named.result.0 (box_value c.args.sums) c.run_named.result.1 c.args.held.now.items c.run_named.new.held.items c.in-Ok.found c.run_named.result.2 c.in-Ok.ensures.begun c.run_named.ensures.runs

pub returns-in-Err-clause-later : goal.returns-in-Err-clause-later
returns-in-Err-clause-later g c = later_same g.V.Vault c.args.held.now.items
