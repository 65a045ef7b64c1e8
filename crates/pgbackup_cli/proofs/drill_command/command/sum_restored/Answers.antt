-- The output's area was taken, only read, and given back.
use Rattle.pgbackup_cli.proofs.drill_command.Areas.{has_seen}
use Rattle.pgbackup_cli.proofs.drill_command.command.sum_restored.Goals as goal

pub returns-clause-reads : goal.returns-clause-reads
returns-clause-reads g c =
    (has_seen g.S.Site g.S.Area.Vault c.in_ok-output_name.field-0 c.args.site.now c.take_one.new.site c.give_one.new.site c.in-Ok.held.name c.in-Ok.held.area c.contents_sum-area.result.0 c.requires.home c.in-Ok.ensures.takes c.give_one.ensures.gives c.contents_sum-area.ensures.reads).reads
