-- The settings of a WAL, and what a store is brought back to by them.
use Rattle.std.proofs.Common.{ap}
use Rattle.lsn_core.specs.Tip.{Tip}
use Rattle.restart_command.proofs.Restarts.{is_done, is_refused}
use Rattle.restart_command.proofs.command.restart_areas.Goals as goal

pub returns-in-Ok-bring_back-clause-answer : goal.returns-in-Ok-bring_back-clause-answer
returns-in-Ok-bring_back-clause-answer g c =
    is_done g.V.Vault c.in-Ok.settings c.args.areas c.settings_of.new.wal c.in-Ok-bring_back.field-0 c.tip.inside.end (ap (λ (t : Tip). t.end) c.tip.view_is) c.in-Ok.ensures.answer c.in-Ok.ensures.reads c.in-Ok-bring_back.ensures.back

pub returns-in-Err-bring_back-clause-answer : goal.returns-in-Err-bring_back-clause-answer
returns-in-Err-bring_back-clause-answer g c =
    is_refused g.V.Vault c.in-Ok.settings c.args.areas c.settings_of.new.wal c.in-Err-bring_back.field-0 c.segment.result c.segment.ensures.value c.in-Ok.ensures.answer c.in-Ok.ensures.reads c.in-Err-bring_back.ensures.refused
