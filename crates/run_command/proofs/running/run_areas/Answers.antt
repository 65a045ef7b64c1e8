-- The area of summaries is lent on the heap.
use Rattle.std.specs.Prelude.{box_value}
use Rattle.crew.proofs.Held.{later_same}
use Rattle.summary_store.specs.Expiry.{age_limit}
use Rattle.run_command.proofs.Crews.{areas_on}
use Rattle.run_command.proofs.running.run_areas.Goals as goal

pub returns-clause-runs : goal.returns-clause-runs
returns-clause-runs g c =
    areas_on g.V.Vault c.args.when (age_limit c.args.days c.args.when) c.args.areas c.run_store-areas.result.0 c.args.sums (box_value c.in-Ok.sums) c.run_store-areas.result.1 c.args.held.items c.run_store-areas.new.held.items c.run_store-areas.result.2 c.in-Ok.ensures.ok c.run_store-areas.ensures.runs

pub returns-in-Err-clause-later : goal.returns-in-Err-clause-later
returns-in-Err-clause-later g c = later_same g.V.Vault c.args.held.items
