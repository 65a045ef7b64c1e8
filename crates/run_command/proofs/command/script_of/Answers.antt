-- What the input was read as.
use Rattle.scripts.proofs.Apart.{scripts_are_apart}
use Rattle.scripts.proofs.Workers.{few_workers}
use Rattle.run_command.specs.Run.{run_workers}
use Rattle.run_command.proofs.command.script_of.Goals as goal

pub returns-in-Ok-read_script-clause-script : goal.returns-in-Ok-read_script-clause-script
returns-in-Ok-read_script-clause-script g c = record {
  bytes = c.in-Ok.bytes.items;
  input = c.in-Ok.ensures.input;
  script_is = rw c.deref.ensures.value at c.in-Ok-read_script.ensures;
}

pub returns-in-Ok-read_script-clause-few : goal.returns-in-Ok-read_script-clause-few
returns-in-Ok-read_script-clause-few g c = few_workers run_workers c.in-Ok.bytes.items _ (rw c.deref.ensures.value at c.in-Ok-read_script.ensures)

pub returns-in-Ok-read_script-clause-apart : goal.returns-in-Ok-read_script-clause-apart
returns-in-Ok-read_script-clause-apart g c = (scripts_are_apart run_workers c.in-Ok.bytes.items _ (rw c.deref.ensures.value at c.in-Ok-read_script.ensures)).0
