use Rattle.std.proofs.Common.{ap, ◌∙◌}
use Rattle.std.specs.Option.{option_map}
use Rattle.vault.specs.Area.{after_write}
use Rattle.backup_files.proofs.Appended.{written_more_in}
use Rattle.backup_files.proofs.Kept.{spares_write}
use Rattle.directory_files.proofs.growing.Growing.add.Goals as goal

pub returns-clause-written : goal.returns-clause-written
returns-clause-written g c = λ bytes before holds stands.
    c.in_ok-write_at.ensures.written ∙ (ap (option_map (after_write c.args.path.now c.args.self.now.size c.args.piece.now)) stands ∙ written_more_in before c.args.path.now bytes c.args.piece.now c.args.self.now.size holds.0)

pub returns-clause-spares : goal.returns-clause-spares
returns-clause-spares g c =
    spares_write g.V.Vault c.args.out.now c.write_at.new.self c.args.path.now c.args.piece.now c.args.self.now.size c.write_at.result c.requires.other c.write_at.ensures.written c.write_at.ensures.memory c.write_at.ensures.failed c.write_at.ensures.cause
