use Rattle.std.proofs.Common.{ℕ, List, length, refl, sym, subst, ◌∙◌, rules}
use Rattle.backup_files.specs.Rows.{ListsRows}
use Rattle.backup_sending.proofs.Listings.{finished, label_missing, manifest_missing, rows_listable}
use Rattle.backup_sending.proofs.Whole.{publish_failed}
use Rattle.backup_sending.proofs.full.finish.Goals as goal

pub add_label-requires-clause-missing : goal.add_label-requires-clause-missing
add_label-requires-clause-missing g c = λ κs lives. label_missing c.requires.run.put c.args.modified.now (g.V.Vault.files c.args.out.now) c.args.rows.items c.requires.run.held

pub manifest_text-requires-clause-rows : goal.manifest_text-requires-clause-rows
manifest_text-requires-clause-rows g c =
    rows_listable c.args.settings c.args.redo c.args.prior c.args.name.now c.args.when c.args.modified.now c.requires.run.put (g.V.Vault.files c.args.out.now) (g.V.Vault.files c.add_label.new.out) c.args.rows.items c.add_label.new.rows.items
    c.requires.modified c.requires.run.held c.in_ok-add_label.ensures.added

pub publish-requires : goal.publish-requires
publish-requires g c = (
  search rules,
  manifest_missing c.requires.run.put c.args.modified.now c.in_ok-add_label.ensures.added.text (g.V.Vault.files c.args.out.now) (g.V.Vault.files c.add_label.new.out) c.args.rows.items c.requires.run.held
      c.in_ok-add_label.ensures.added.stands,
)

pub returns-in_err-publish-clause-left : goal.returns-in_err-publish-clause-left
returns-in_err-publish-clause-left g c =
    publish_failed g.V.Vault _ c.deref.result.now c.args.out.now c.add_label.new.out c.publish.new.out c.from_residual-in_err-publish.result c.in_err-publish.field-0.0 c.from_residual-in_err-publish.ensures.1 c.add_label.ensures.spares.manifest
    c.add_label.ensures.spares.faults
    (λ stands. (
      length c.add_label.new.rows.items,
      finished c.args.settings c.args.redo c.args.prior c.args.end c.args.name.now c.args.when c.args.modified.now (g.V.Vault.files c.args.out.now) (g.V.Vault.files c.add_label.new.out) (g.V.Vault.files c.publish.new.out)
          c.args.rows.items c.add_label.new.rows.items (length c.add_label.new.rows.items) c.deref.result.now c.requires.modified c.in_ok-add_label.ensures.added refl
          (subst (λ (x : List ℕ). ListsRows c.args.settings.system c.add_label.new.rows.items c.args.redo.redo c.args.end x) (sym c.deref.ensures.value) (subst (λ (n : ℕ). ListsRows n c.add_label.new.rows.items c.args.redo.redo c.args.end c.in_ok-text.text.items) c.system.ensures.value c.in_ok-text.ensures)) stands,
    ))
    c.in_err-publish.ensures.left

pub returns-clause-done : goal.returns-clause-done
returns-clause-done g c =
    finished c.args.settings c.args.redo c.args.prior c.args.end c.args.name.now c.args.when c.args.modified.now (g.V.Vault.files c.args.out.now) (g.V.Vault.files c.add_label.new.out) (g.V.Vault.files c.publish.new.out) c.args.rows.items c.add_label.new.rows.items
    _ c.deref.result.now c.requires.modified c.in_ok-add_label.ensures.added (c.len-count.ensures ∙ c.add_label.new.rows.ok.0)
    (subst (λ (x : List ℕ). ListsRows c.args.settings.system c.add_label.new.rows.items c.args.redo.redo c.args.end x) (sym c.deref.ensures.value) (subst (λ (n : ℕ). ListsRows n c.add_label.new.rows.items c.args.redo.redo c.args.end c.in_ok-text.text.items) c.system.ensures.value c.in_ok-text.ensures)) c.in_ok-publish.ensures.written
