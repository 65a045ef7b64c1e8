use Rattle.std.proofs.Common.{◌≡◌, ℕ, List, true, ap, ◌∙◌}
use Rattle.std.specs.Option.{option_map}
use Rattle.vault.specs.Area.{after_write}
use Rattle.backup_sending.specs.Backup.{site_of}
use Rattle.backup_sending.proofs.Copying.{area_failed, both_on, store_failed}
use Rattle.backup_files.proofs.Kept.{spares_write}
use Rattle.backup_sending.proofs.Steps.{copies_store}
use Rattle.backup_sending.proofs.Blocks.{piece_written}
use Rattle.backup_sending.proofs.parts.copy_part_piece.Goals as goal

pub returns-in_err-copy_blocks-clause-copies_on : goal.returns-in_err-copy_blocks-clause-copies_on
returns-in_err-copy_blocks-clause-copies_on g c = copies_store g.V.Vault c.args.pass.now c.copy_blocks.new.pass c.args.out.now c.copy_blocks.ensures.looks

pub returns-in_err-copy_blocks-clause-cause : goal.returns-in_err-copy_blocks-clause-cause
returns-in_err-copy_blocks-clause-cause g c =
    store_failed g.V.Vault (site_of c.args.pass.now c.args.out.now) (site_of c.copy_blocks.new.pass c.args.out.now) c.from_residual.result c.in_err-copy_blocks.field-0.0 c.from_residual.ensures.1 c.in_err-copy_blocks.ensures.cause

pub returns-in_err-write_at-clause-copies_on : goal.returns-in_err-write_at-clause-copies_on
returns-in_err-write_at-clause-copies_on g c =
    both_on g.V.Vault c.args.pass.now c.copy_blocks.new.pass c.args.out.now c.write_at.new.self c.copy_blocks.ensures.looks
    (spares_write g.V.Vault c.args.out.now c.write_at.new.self c.args.path.now c.deref.result.now _ c.write_at.result c.requires.other c.write_at.ensures.written c.write_at.ensures.memory c.write_at.ensures.failed c.write_at.ensures.cause)

pub returns-in_err-write_at-clause-cause : goal.returns-in_err-write_at-clause-cause
returns-in_err-write_at-clause-cause g c =
    area_failed g.V.Vault c.args.pass.now c.copy_blocks.new.pass c.args.out.now c.write_at.new.self c.from_residual-in_err-write_at.result c.in_err-write_at.field-0.0 c.copy_blocks.ensures.looks
    c.from_residual-in_err-write_at.ensures.1 c.in_err-write_at.ensures.cause

pub returns-clause-copies_on : goal.returns-clause-copies_on
returns-clause-copies_on g c =
    both_on g.V.Vault c.args.pass.now c.copy_blocks.new.pass c.args.out.now c.write_at.new.self c.copy_blocks.ensures.looks
    (spares_write g.V.Vault c.args.out.now c.write_at.new.self c.args.path.now c.deref.result.now _ c.write_at.result c.requires.other c.write_at.ensures.written c.write_at.ensures.memory c.write_at.ensures.failed c.write_at.ensures.cause)

pub returns-clause-written : goal.returns-clause-written
returns-clause-written g c =
    piece_written (g.J.OfStore.tells ≡ true) c.copy_blocks.new.pass.list c.args.from.0 c.args.fork.now c.args.first c.args.blocks.now c.args.path.now c.args.at c.copy_blocks.new.piece.items c.clear.new.self.items (g.V.Vault.files c.args.out.now)
    (g.V.Vault.files c.write_at.new.self) c.args.hasher.now c.update.new.self c.in_ok-copy_blocks.ensures.copied c.clear.ensures.items
    (c.in_ok-write_at.ensures.written ∙ ap (λ (x : List ℕ). option_map (after_write c.args.path.now c.args.at x) (g.V.Vault.files c.args.out.now)) c.deref.ensures.value) c.update.ensures
