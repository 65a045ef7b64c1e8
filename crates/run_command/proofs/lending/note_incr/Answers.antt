-- The areas of an incremental backup, noted in turn.
use Rattle.std.proofs.Common.{[], ◌∷◌}
use Rattle.command_base.specs.Areas.{backup_name}
use Rattle.run_command.proofs.Noted.{asks_both}
use Rattle.run_command.proofs.lending.note_incr.Goals as goal

pub returns : goal.returns
returns c =
    asks_both (backup_name c.args.name.now ∷ []) (backup_name c.args.prior.now ∷ []) c.args.names.now.items c.note_backup.new.names.items c.note_backup-2.new.names.items c.in_ok-note_backup.ensures
    c.in_ok-note_backup-2.ensures
