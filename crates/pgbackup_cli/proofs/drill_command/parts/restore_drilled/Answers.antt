-- The script was run, and then the chain was restored.
use Rattle.std.proofs.Common.{◌∙◌, refl, subst, None, Err}
use Rattle.command_base.specs.Outside.{of_site}
use Rattle.vault.specs.Lending.{Names}
use Rattle.chain_commands.specs.Restore.{RestoreRan}
use Rattle.pgbackup_cli.specs.drill_command.Drill.{drill_out, drill_writes}
use Rattle.pgbackup_cli.proofs.drill_command.Areas.{works_on}
use Rattle.pgbackup_cli.proofs.drill_command.Steps.{restore_wrote}
use Rattle.pgbackup_cli.proofs.drill_command.parts.restore_drilled.Goals as goal

pub returns-in-Ok-clause-writes : goal.returns-in-Ok-clause-writes
returns-in-Ok-clause-writes g c =
    works_on (drill_writes c.args.n) (of_site g.S.Site c.args.site.now) (of_site g.S.Site c.run_drilled.new.site) (of_site g.S.Site c.restore.new.site) c.run_drilled.ensures.writes
    (restore_wrote c.args.n (of_site g.S.Site c.run_drilled.new.site) (of_site g.S.Site c.restore.new.site) c.restore.ensures.does.0)

pub returns-clause-answer : goal.returns-clause-answer
returns-clause-answer g c = (
  of_site g.S.Site c.run_drilled.new.site,
  c.in_ok-run_drilled.ensures.answer,
  c.restore.ensures.does.0,
  subst (λ (names : Names). RestoreRan None names drill_out (of_site g.S.Site c.run_drilled.new.site) (of_site g.S.Site c.restore.new.site) (Err c.in-Err.why)) (c.deref.ensures.value ∙ c.in_ok-names.ensures) c.in-Err.ensures.does.1,
  refl,
)

pub returns-clause-writes : goal.returns-clause-writes
returns-clause-writes g c =
    works_on (drill_writes c.args.n) (of_site g.S.Site c.args.site.now) (of_site g.S.Site c.run_drilled.new.site) (of_site g.S.Site c.restore.new.site) c.run_drilled.ensures.writes
    (restore_wrote c.args.n (of_site g.S.Site c.run_drilled.new.site) (of_site g.S.Site c.restore.new.site) c.restore.ensures.does.0)
