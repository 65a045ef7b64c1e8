use Rattle.std.proofs.Common.{◌≡◌, ℕ, ◌*◌, List, true, ap, ◌∙◌}
use Rattle.std.specs.Option.{option_map}
use Rattle.vault.specs.Area.{after_write}
use Rattle.backup_sending.specs.Backup.{site_of}
use Rattle.backup_sending.proofs.Copying.{area_failed, both_on, store_failed}
use Rattle.backup_files.proofs.Kept.{spares_write}
use Rattle.backup_sending.proofs.Steps.{copies_store}
use Rattle.backup_sending.proofs.Contents.{piece_added}
use Rattle.backup_sending.proofs.files.copy_piece.Goals as goal

pub returns-in_err-copy_pages-clause-copies_on : goal.returns-in_err-copy_pages-clause-copies_on
returns-in_err-copy_pages-clause-copies_on g c = copies_store g.V.Vault c.args.pass.now c.copy_pages.new.pass c.args.out.now c.copy_pages.ensures.looks

pub returns-in_err-copy_pages-clause-cause : goal.returns-in_err-copy_pages-clause-cause
returns-in_err-copy_pages-clause-cause g c =
    store_failed g.V.Vault (site_of c.args.pass.now c.args.out.now) (site_of c.copy_pages.new.pass c.args.out.now) c.from_residual.result c.in_err-copy_pages.field-0.0 c.from_residual.ensures.1 c.in_err-copy_pages.ensures.cause

pub returns-in_err-write_at-clause-copies_on : goal.returns-in_err-write_at-clause-copies_on
returns-in_err-write_at-clause-copies_on g c =
    both_on g.V.Vault c.args.pass.now c.copy_pages.new.pass c.args.out.now c.write_at.new.self c.copy_pages.ensures.looks
    (spares_write g.V.Vault c.args.out.now c.write_at.new.self c.args.path.now c.deref.result.now _ c.write_at.result c.requires.other c.write_at.ensures.written c.write_at.ensures.memory c.write_at.ensures.failed c.write_at.ensures.cause)

pub returns-in_err-write_at-clause-cause : goal.returns-in_err-write_at-clause-cause
returns-in_err-write_at-clause-cause g c =
    area_failed g.V.Vault c.args.pass.now c.copy_pages.new.pass c.args.out.now c.write_at.new.self c.from_residual-in_err-write_at.result c.in_err-write_at.field-0.0 c.copy_pages.ensures.looks
    c.from_residual-in_err-write_at.ensures.1 c.in_err-write_at.ensures.cause

pub returns-clause-copies_on : goal.returns-clause-copies_on
returns-clause-copies_on g c =
    both_on g.V.Vault c.args.pass.now c.copy_pages.new.pass c.args.out.now c.write_at.new.self c.copy_pages.ensures.looks
    (spares_write g.V.Vault c.args.out.now c.write_at.new.self c.args.path.now c.deref.result.now _ c.write_at.result c.requires.other c.write_at.ensures.written c.write_at.ensures.memory c.write_at.ensures.failed c.write_at.ensures.cause)

pub returns-clause-added : goal.returns-clause-added
returns-clause-added g c =
    piece_added (g.J.OfStore.tells ≡ true) c.copy_pages.new.pass.list c.args.from.0 c.args.fork.now c.args.block c.args.done c.args.count (c.from.result * 8192) c.args.path.now c.copy_pages.new.piece.items c.clear.new.self.items (g.V.Vault.files c.args.out.now)
    (g.V.Vault.files c.write_at.new.self) c.args.hasher.now c.update.new.self c.in_ok-copy_pages.ensures.copied c.clear.ensures.items (ap (λ (n : ℕ). n * 8192) c.from.ensures)
    (c.in_ok-write_at.ensures.written ∙ ap (λ (x : List ℕ). option_map (after_write c.args.path.now (c.from.result * 8192) x) (g.V.Vault.files c.args.out.now)) c.deref.ensures.value) c.update.ensures
