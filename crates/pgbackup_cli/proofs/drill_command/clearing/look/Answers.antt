-- An area that was taken, only read, and given back.
use Rattle.pgbackup_cli.proofs.drill_command.Areas.{has_seen}
use Rattle.pgbackup_cli.proofs.drill_command.clearing.look.Goals as goal

pub returns-clause-reads : goal.returns-clause-reads
returns-clause-reads g c =
    (has_seen g.S.Site g.S.Area.Vault c.in_ok-joined.field-0 c.args.site.now c.take_one.new.site c.give_one.new.site c.in-Ok.held.name c.in-Ok.held.area c.is_clear-clear.new.area c.requires.home c.in-Ok.ensures.takes c.give_one.ensures.gives
    (record { files = c.is_clear-clear.ensures.same; past = c.is_clear-clear.ensures.quiet; faults = c.is_clear-clear.ensures.cause.later })).reads
