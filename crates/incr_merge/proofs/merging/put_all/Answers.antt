use Rattle.std.proofs.Common.{ℕ, List, length, refl, sym, subst, ◌∙◌}
use Rattle.chain_files.specs.Told.{chain_told}
use Rattle.chain_files.proofs.Told.{reads_refl}
use Rattle.directory_files.specs.Relisted.{other_rows}
use Rattle.directory_files.specs.Written.{Relists}
use Rattle.directory_files.proofs.Directories.{counted_rows, manifest_missing, rows_listable}
use Rattle.incr_merge.specs.Inside.{IsContent, PutsAll}
use Rattle.incr_merge.proofs.Directories.{whole_merged}
use Rattle.combine.proofs.Failed.{write_failed, write_left}
use Rattle.combine.proofs.Left.{publish_failed}
use Rattle.incr_merge.proofs.Paths.{are_others, each_target}
use Rattle.incr_merge.proofs.merging.put_all.Goals as goal

pub returns-in_err-modified-clause-reads : goal.returns-in_err-modified-clause-reads
returns-in_err-modified-clause-reads g c = reads_refl g.V.Vault c.args.areas.now

pub put_files-requires-clause-targets : goal.put_files-requires-clause-targets
put_files-requires-clause-targets g c κs within = each_target (chain_told g.V.Vault c.args.areas.now c.args.places.now) (other_rows c.args.m.now.files) c.args.targets.now c.requires.can.rows

pub relisted_text-requires-clause-rows : goal.relisted_text-requires-clause-rows
relisted_text-requires-clause-rows g c =
    rows_listable (IsContent (chain_told g.V.Vault c.args.areas.now c.args.places.now)) c.args.m.now c.args.targets.now c.args.when c.in_ok-modified.modified (g.V.Vault.files c.put_files.new.out) c.in_ok-rows.rows.items c.requires.can.listable c.in_ok-modified.ensures c.in_ok-rows.ensures.put

pub publish-requires-after_bounds : goal.publish-requires-after_bounds
publish-requires-after_bounds g c κs within =
    manifest_missing (IsContent (chain_told g.V.Vault c.args.areas.now c.args.places.now)) c.args.targets.now c.in_ok-modified.modified (g.V.Vault.files c.put_files.new.out) c.in_ok-rows.rows.items (are_others (chain_told g.V.Vault c.args.areas.now c.args.places.now) c.args.targets.now (each_target (chain_told g.V.Vault c.args.areas.now c.args.places.now) (other_rows c.args.m.now.files) c.args.targets.now c.requires.can.rows))
    c.in_ok-rows.ensures.put

pub returns-in_err-publish-clause-left : goal.returns-in_err-publish-clause-left
returns-in_err-publish-clause-left g c =
    let told = chain_told g.V.Vault c.args.areas.now c.args.places.now in
    publish_failed g.V.Vault ((count : ℕ) × PutsAll g.V.Vault c.args.places.now c.args.m.now c.args.when c.args.areas.now c.publish.new.out count) c.deref.result.now c.args.out.now c.put_files.new.out c.publish.new.out c.from_residual-in_err-publish.result c.in_err-publish.field-0.0
    c.from_residual-in_err-publish.ensures.1 c.put_files.ensures.spares.manifest c.put_files.ensures.spares.faults
    (λ stands. (
      length c.in_ok-rows.rows.items,
      whole_merged told c.args.m.now c.args.targets.now c.args.when (length c.in_ok-rows.rows.items) c.in_ok-modified.modified c.deref.result.now (g.V.Vault.files c.put_files.new.out) (g.V.Vault.files c.publish.new.out) c.in_ok-rows.rows.items c.requires.can.rows c.in_ok-modified.ensures
          c.in_ok-rows.ensures.put (subst (λ (x : List ℕ). Relists c.args.m.now c.in_ok-rows.rows.items x) (sym c.deref.ensures.value) c.in_ok-text.ensures) refl stands,
    ))
    c.in_err-publish.ensures.left

pub returns-clause-counted : goal.returns-clause-counted
returns-clause-counted g c =
    (c.len-count.ensures ∙ c.in_ok-rows.rows.ok.0) ∙ counted_rows (IsContent (chain_told g.V.Vault c.args.areas.now c.args.places.now)) c.args.targets.now c.in_ok-modified.modified (g.V.Vault.files c.put_files.new.out) c.in_ok-rows.rows.items c.in_ok-rows.ensures.put

pub returns-clause-put : goal.returns-clause-put
returns-clause-put g c =
    whole_merged (chain_told g.V.Vault c.args.areas.now c.args.places.now) c.args.m.now c.args.targets.now c.args.when c.len-count.result c.in_ok-modified.modified c.deref.result.now (g.V.Vault.files c.put_files.new.out) (g.V.Vault.files c.publish.new.out) c.in_ok-rows.rows.items
    c.requires.can.rows c.in_ok-modified.ensures c.in_ok-rows.ensures.put (subst (λ (x : List ℕ). Relists c.args.m.now c.in_ok-rows.rows.items x) (sym c.deref.ensures.value) c.in_ok-text.ensures) (c.len-count.ensures ∙ c.in_ok-rows.rows.ok.0) c.in_ok-publish.ensures.written

pub returns-in_err-rows-clause-left : goal.returns-in_err-rows-clause-left
returns-in_err-rows-clause-left g c =
    write_left g.V.Vault ((count : ℕ) × PutsAll g.V.Vault c.args.places.now c.args.m.now c.args.when c.args.areas.now c.put_files.new.out count) c.args.out.now c.put_files.new.out c.from_residual-in_err-rows.result c.in_err-rows.field-0.0
    c.from_residual-in_err-rows.ensures.1 c.put_files.ensures.spares.manifest

pub returns-in_err-rows-clause-cause : goal.returns-in_err-rows-clause-cause
returns-in_err-rows-clause-cause g c =
    write_failed g.V.Vault c.args.areas.now c.put_files.new.areas c.args.out.now c.put_files.new.out c.from_residual-in_err-rows.result c.in_err-rows.field-0.0 c.from_residual-in_err-rows.ensures.1 c.in_err-rows.ensures.cause
