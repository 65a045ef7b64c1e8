-- All of them hold no file, and were only looked at.
use Rattle.std.proofs.lemmas.Result.{on_ok_weaker}
use Rattle.pgbackup_cli.proofs.drill_command.parts.check_areas.Goals as goal

pub returns-clause-looked : goal.returns-clause-looked
returns-clause-looked g c = on_ok_weaker c.check_clear.result (λ clear. record { clear = clear; reads = c.check_clear.ensures.reads }) c.check_clear.ensures.clear

pub returns-clause-unclear : goal.returns-clause-unclear
returns-clause-unclear g c = c.check_clear.ensures.unclear
