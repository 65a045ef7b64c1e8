-- A path names a segment file in its plain form, or not.
use Rattle.restart_areas.proofs.Plain.{plain_told, none_told}
use Rattle.restart_areas.proofs.clearing.is_fork_path.Goals as goal

pub returns-in-Some : goal.returns-in-Some
returns-in-Some c = plain_told c.args.path.now c.in-Some.field-0-0 c.in-Some.field-0-1 c.in-Some.incr c.in-Some.ensures.named c.in-Some.ensures.found

pub returns-in-None : goal.returns-in-None
returns-in-None c = none_told c.args.path.now c.in-None.ensures.none
