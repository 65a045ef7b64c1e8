-- The areas were looked at, and then `init` wrote.
use Rattle.command_base.specs.Outside.{of_site}
use Rattle.pgbackup_cli.specs.drill_command.Drill.{drill_writes}
use Rattle.pgbackup_cli.proofs.drill_command.Areas.{works_none, works_on}
use Rattle.pgbackup_cli.proofs.drill_command.Steps.{init_wrote}
use Rattle.pgbackup_cli.proofs.drill_command.parts.begin.Goals as goal

pub returns-in-Ok-clause-writes : goal.returns-in-Ok-clause-writes
returns-in-Ok-clause-writes g c =
    works_on (drill_writes c.args.n) (of_site g.S.Site c.args.site.now) (of_site g.S.Site c.check_areas.new.site) (of_site g.S.Site c.make_store.new.site)
    (works_none (drill_writes c.args.n) (of_site g.S.Site c.args.site.now) (of_site g.S.Site c.check_areas.new.site) c.check_areas.ensures.reads)
    (init_wrote c.args.n (of_site g.S.Site c.check_areas.new.site) (of_site g.S.Site c.make_store.new.site) c.make_store.ensures.wrote)

pub returns-in-Err-clause-writes : goal.returns-in-Err-clause-writes
returns-in-Err-clause-writes g c =
    works_on (drill_writes c.args.n) (of_site g.S.Site c.args.site.now) (of_site g.S.Site c.check_areas.new.site) (of_site g.S.Site c.make_store.new.site)
    (works_none (drill_writes c.args.n) (of_site g.S.Site c.args.site.now) (of_site g.S.Site c.check_areas.new.site) c.check_areas.ensures.reads)
    (init_wrote c.args.n (of_site g.S.Site c.check_areas.new.site) (of_site g.S.Site c.make_store.new.site) c.make_store.ensures.wrote)
