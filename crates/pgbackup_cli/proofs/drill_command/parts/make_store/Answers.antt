-- The moment is no part of the settings.
use Rattle.std.proofs.Common.{subst}
use Rattle.command_base.specs.Outside.{of_site}
use Rattle.command_line.specs.declared.options.InitOptions.{InitOptions}
use Rattle.store_commands.specs.Init.{InitRan, new_settings}
use Rattle.pgbackup_cli.proofs.drill_command.parts.make_store.Goals as goal

pub returns-clause-made : goal.returns-clause-made
returns-clause-made g c =
    subst (λ (o : InitOptions). InitRan (new_settings o c.init.ensures.does.1.0) (of_site g.S.Site c.args.site.now) (of_site g.S.Site c.init.new.site) c.init.result) c.drill_options.ensures.options c.init.ensures.does.1.2
