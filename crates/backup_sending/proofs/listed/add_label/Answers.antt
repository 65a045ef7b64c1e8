use Rattle.std.proofs.Common.{ℕ, List, ap, ◌∙◌, arith}
use Rattle.std.specs.Option.{option_map}
use Rattle.vault.specs.Area.{after_write}
use Rattle.backup_files.specs.Directory.{label_name}
use Rattle.backup_files.proofs.Kept.{spares_write}
use Rattle.backup_sending.proofs.Labels.{label_added, label_apart}
use Rattle.backup_sending.proofs.listed.add_label.Goals as goal

pub returns-in_err-write_at-clause-spares : goal.returns-in_err-write_at-clause-spares
returns-in_err-write_at-clause-spares g c = spares_write g.V.Vault c.args.out.now c.write_at.new.self label_name c.deref.result.now 0 c.write_at.result label_apart c.write_at.ensures.written c.write_at.ensures.memory c.write_at.ensures.failed c.write_at.ensures.cause

pub returns-in_err-path-clause-spares : goal.returns-in_err-path-clause-spares
returns-in_err-path-clause-spares g c = spares_write g.V.Vault c.args.out.now c.write_at.new.self label_name c.deref.result.now 0 c.write_at.result label_apart c.write_at.ensures.written c.write_at.ensures.memory c.write_at.ensures.failed c.write_at.ensures.cause

pub returns-in_err-file_row-clause-spares : goal.returns-in_err-file_row-clause-spares
returns-in_err-file_row-clause-spares g c = spares_write g.V.Vault c.args.out.now c.write_at.new.self label_name c.deref.result.now 0 c.write_at.result label_apart c.write_at.ensures.written c.write_at.ensures.memory c.write_at.ensures.failed c.write_at.ensures.cause

pub returns-in_err-push-clause-spares : goal.returns-in_err-push-clause-spares
returns-in_err-push-clause-spares g c = spares_write g.V.Vault c.args.out.now c.write_at.new.self label_name c.deref.result.now 0 c.write_at.result label_apart c.write_at.ensures.written c.write_at.ensures.memory c.write_at.ensures.failed c.write_at.ensures.cause

pub returns-clause-spares : goal.returns-clause-spares
returns-clause-spares g c = spares_write g.V.Vault c.args.out.now c.write_at.new.self label_name c.deref.result.now 0 c.write_at.result label_apart c.write_at.ensures.written c.write_at.ensures.memory c.write_at.ensures.failed c.write_at.ensures.cause

pub returns-clause-added : goal.returns-clause-added
returns-clause-added g c =
    label_added c.args.settings c.args.redo c.args.prior c.args.name.now c.args.when c.args.modified.now c.in_ok-path.path c.in_ok-text.text.items c.digest-sum.result c.len.result (g.V.Vault.files c.args.out.now) (g.V.Vault.files c.write_at.new.self)
    c.args.rows.now.items c.push.new.self.items c.in_ok-file_row.field-0 c.in_ok-text.ensures (omega (arith, c.len.ensures, c.in_ok-text.text.ok.0)) c.requires.missing
    (c.in_ok-write_at.ensures.written ∙ ap (λ (x : List ℕ). option_map (after_write label_name 0 x) (g.V.Vault.files c.args.out.now)) c.deref.ensures.value) c.in_ok-file_row.ensures c.in_ok-path.ensures (c.len.ensures ∙ c.in_ok-text.text.ok.0) c.digest-sum.ensures c.in_ok-push.ensures.items
