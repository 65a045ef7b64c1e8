use Rattle.std.proofs.Common.{◌≡◌, ℕ, true, Some, ap, subst, ◌∙◌, arith}
use Rattle.lsn_core.specs.Segment.{StoreSettings}
use Rattle.manifest.specs.Listing.{Listing}
use Rattle.store_faults.specs.declared.incr_fault.IncrFault.TheVariants as fault
use Rattle.backup_sending.specs.Backup.{LeavesManifest}
use Rattle.backup_sending.specs.Inside.{Finishes}
use Rattle.incr_backup.specs.Incr.{incr_site, origin}
use Rattle.store_faults.specs.Giving.{incr_fault}
use Rattle.incr_backup.proofs.IncrAnswers.{IsDone, IsLooked, begin_refused, can_finish_incr, early_refused, err_answer, finish_refused, looked, send_refused, taken_incr}
use Rattle.backup_sending.proofs.Steps.{looks_less, looks_on, looks_still}
use Rattle.incr_backup.proofs.incr.take_incr.Goals as goal

pub returns-in_err-manifest-clause-answer : goal.returns-in_err-manifest-clause-answer
returns-in_err-manifest-clause-answer g c =
    let sys : c.system.result ≡ g.J.OfCrew.settings.system = c.system.ensures.value ∙ ap (λ (s : StoreSettings). s.system) c.settings-settings.ensures in
    err_answer g.V.Vault (g.J.OfStore.tells ≡ true) (origin g.J.OfCrew.settings g.J.OfCrew.found g.J.OfCrew.sums g.J.OfRetention.limit) c.args.name.now c.args.when (incr_site c.args.pass.now c.args.prior.now c.args.out.now) (incr_site c.args.pass.now c.look.new.prior c.look.new.out) c.from_residual.result c.in_err-manifest.field-0.0 c.from_residual.ensures.1
    (early_refused g.V.Vault (g.J.OfStore.tells ≡ true) (origin g.J.OfCrew.settings g.J.OfCrew.found g.J.OfCrew.sums g.J.OfRetention.limit) c.args.name.now c.args.when c.system.result c.args.pass.now c.args.prior.now c.look.new.prior c.args.out.now c.look.new.out c.in_err-manifest.field-0.0 sys c.look.ensures.spared c.in_err-manifest.ensures.refused)

pub returns-in_err-manifest-clause-looks : goal.returns-in_err-manifest-clause-looks
returns-in_err-manifest-clause-looks g c = looks_less 3 c.args.pass.now c.args.pass.now (omega arith) (looks_still c.args.pass.now)

pub returns-in_err-modified-clause-looks : goal.returns-in_err-modified-clause-looks
returns-in_err-modified-clause-looks g c = looks_less 3 c.args.pass.now c.args.pass.now (omega arith) (looks_still c.args.pass.now)

pub returns-in_err-modified-clause-answer : goal.returns-in_err-modified-clause-answer
returns-in_err-modified-clause-answer g c =
    let sys : c.system.result ≡ g.J.OfCrew.settings.system = c.system.ensures.value ∙ ap (λ (s : StoreSettings). s.system) c.settings-settings.ensures in
    err_answer g.V.Vault (g.J.OfStore.tells ≡ true) (origin g.J.OfCrew.settings g.J.OfCrew.found g.J.OfCrew.sums g.J.OfRetention.limit) c.args.name.now c.args.when (incr_site c.args.pass.now c.args.prior.now c.args.out.now) (incr_site c.args.pass.now c.look.new.prior c.look.new.out) c.from_residual-in_err-modified.result fault.NoMemory c.from_residual-in_err-modified.ensures.1
    (early_refused g.V.Vault (g.J.OfStore.tells ≡ true) (origin g.J.OfCrew.settings g.J.OfCrew.found g.J.OfCrew.sums g.J.OfRetention.limit) c.args.name.now c.args.when c.system.result c.args.pass.now c.args.prior.now c.look.new.prior c.args.out.now c.look.new.out fault.NoMemory sys c.look.ensures.spared tt)

pub returns-in_err-redo-clause-looks : goal.returns-in_err-redo-clause-looks
returns-in_err-redo-clause-looks g c = looks_less 3 c.args.pass.now c.begin.new.pass (omega arith) c.begin.ensures.looks

pub returns-in_err-redo-clause-answer : goal.returns-in_err-redo-clause-answer
returns-in_err-redo-clause-answer g c =
    let sys : c.system.result ≡ g.J.OfCrew.settings.system = c.system.ensures.value ∙ ap (λ (s : StoreSettings). s.system) c.settings-settings.ensures in
    let m = c.in_ok-manifest.manifest in
    let l : IsLooked g.V.Vault (origin g.J.OfCrew.settings g.J.OfCrew.found g.J.OfCrew.sums g.J.OfRetention.limit) c.args.prior.now c.args.out.now m = looked g.V.Vault (origin g.J.OfCrew.settings g.J.OfCrew.found g.J.OfCrew.sums g.J.OfRetention.limit) c.args.prior.now c.args.out.now m c.system.result sys c.in_ok-manifest.ensures.empty c.in_ok-manifest.ensures.told c.in_ok-manifest.ensures.ours in
    err_answer g.V.Vault (g.J.OfStore.tells ≡ true) (origin g.J.OfCrew.settings g.J.OfCrew.found g.J.OfCrew.sums g.J.OfRetention.limit) c.args.name.now c.args.when (incr_site c.args.pass.now c.args.prior.now c.args.out.now) (incr_site c.begin.new.pass c.look.new.prior c.look.new.out) c.from_residual-in_err-redo.result c.in_err-redo.field-0.0 c.from_residual-in_err-redo.ensures.1
    (begin_refused g.V.Vault (g.J.OfStore.tells ≡ true) (origin g.J.OfCrew.settings g.J.OfCrew.found g.J.OfCrew.sums g.J.OfRetention.limit) c.args.name.now c.args.when c.args.pass.now c.begin.new.pass c.args.prior.now c.look.new.prior c.args.out.now c.look.new.out m c.in_err-redo.field-0.0 l c.look.ensures.spared c.in_err-redo.ensures.refused)

pub returns-in_err-end-clause-answer : goal.returns-in_err-end-clause-answer
returns-in_err-end-clause-answer g c =
    let sys : c.system.result ≡ g.J.OfCrew.settings.system = c.system.ensures.value ∙ ap (λ (s : StoreSettings). s.system) c.settings-settings.ensures in
    let m = c.in_ok-manifest.manifest in
    let l : IsLooked g.V.Vault (origin g.J.OfCrew.settings g.J.OfCrew.found g.J.OfCrew.sums g.J.OfRetention.limit) c.args.prior.now c.args.out.now m = looked g.V.Vault (origin g.J.OfCrew.settings g.J.OfCrew.found g.J.OfCrew.sums g.J.OfRetention.limit) c.args.prior.now c.args.out.now m c.system.result sys c.in_ok-manifest.ensures.empty c.in_ok-manifest.ensures.told c.in_ok-manifest.ensures.ours in
    err_answer g.V.Vault (g.J.OfStore.tells ≡ true) (origin g.J.OfCrew.settings g.J.OfCrew.found g.J.OfCrew.sums g.J.OfRetention.limit) c.args.name.now c.args.when (incr_site c.args.pass.now c.args.prior.now c.args.out.now) (incr_site c.send_all.new.pass c.look.new.prior c.send_all.new.out) c.from_residual-in_err-end.result (incr_fault c.in_err-end.field-0.0) c.from_residual-in_err-end.ensures.1
    (send_refused g.V.Vault (g.J.OfStore.tells ≡ true) (origin g.J.OfCrew.settings g.J.OfCrew.found g.J.OfCrew.sums g.J.OfRetention.limit) c.args.name.now c.args.when c.args.pass.now c.begin.new.pass c.send_all.new.pass c.args.prior.now c.look.new.prior c.args.out.now c.look.new.out c.send_all.new.out m c.in_ok-redo.redo c.in_ok-redo.basis c.in_err-end.field-0.0 l
    c.look.ensures.spared c.look.ensures.later c.begin.ensures.looks c.send_all.ensures.looks c.send_all.ensures.spares c.in_ok-redo.ensures.begun c.in_err-end.ensures.refused)

pub returns-in_err-end-clause-looks : goal.returns-in_err-end-clause-looks
returns-in_err-end-clause-looks g c =
    looks_on c.args.pass.now c.begin.new.pass c.send_all.new.pass c.begin.ensures.looks c.send_all.ensures.looks

pub finish-requires-clause-run : goal.finish-requires-clause-run
finish-requires-clause-run g c = λ κs lives.
    let m = c.in_ok-manifest.manifest in
    let d : IsDone (g.J.OfStore.tells ≡ true) (origin g.J.OfCrew.settings g.J.OfCrew.found g.J.OfCrew.sums g.J.OfRetention.limit) c.args.when c.args.pass.now c.begin.new.pass c.send_all.new.pass (g.V.Vault.files c.send_all.new.out) m c.in_ok-redo.redo c.in_ok-redo.basis c.in_ok-modified.modified c.in_ok-end.end c.in_ok-end.rows.items =
    record { begun = c.in_ok-redo.ensures.begun; sent = c.in_ok-end.ensures.sent; first = c.begin.ensures.looks; on = c.send_all.ensures.looks } in
    can_finish_incr (g.J.OfStore.tells ≡ true) (origin g.J.OfCrew.settings g.J.OfCrew.found g.J.OfCrew.sums g.J.OfRetention.limit) c.args.when c.args.pass.now c.begin.new.pass c.send_all.new.pass (g.V.Vault.files c.send_all.new.out) m c.in_ok-redo.redo c.in_ok-redo.basis c.in_ok-modified.modified c.in_ok-end.end c.in_ok-end.rows.items c.settings-settings.result c.settings-settings.ensures d

pub returns-in_err-files-clause-answer : goal.returns-in_err-files-clause-answer
returns-in_err-files-clause-answer g c =
    let sys : c.system.result ≡ g.J.OfCrew.settings.system = c.system.ensures.value ∙ ap (λ (s : StoreSettings). s.system) c.settings-settings.ensures in
    let m = c.in_ok-manifest.manifest in
    let l : IsLooked g.V.Vault (origin g.J.OfCrew.settings g.J.OfCrew.found g.J.OfCrew.sums g.J.OfRetention.limit) c.args.prior.now c.args.out.now m = looked g.V.Vault (origin g.J.OfCrew.settings g.J.OfCrew.found g.J.OfCrew.sums g.J.OfRetention.limit) c.args.prior.now c.args.out.now m c.system.result sys c.in_ok-manifest.ensures.empty c.in_ok-manifest.ensures.told c.in_ok-manifest.ensures.ours in
    let d : IsDone (g.J.OfStore.tells ≡ true) (origin g.J.OfCrew.settings g.J.OfCrew.found g.J.OfCrew.sums g.J.OfRetention.limit) c.args.when c.args.pass.now c.begin.new.pass c.send_all.new.pass (g.V.Vault.files c.send_all.new.out) m c.in_ok-redo.redo c.in_ok-redo.basis c.in_ok-modified.modified c.in_ok-end.end c.in_ok-end.rows.items =
    record { begun = c.in_ok-redo.ensures.begun; sent = c.in_ok-end.ensures.sent; first = c.begin.ensures.looks; on = c.send_all.ensures.looks } in
    err_answer g.V.Vault (g.J.OfStore.tells ≡ true) (origin g.J.OfCrew.settings g.J.OfCrew.found g.J.OfCrew.sums g.J.OfRetention.limit) c.args.name.now c.args.when (incr_site c.args.pass.now c.args.prior.now c.args.out.now) (incr_site c.send_all.new.pass c.look.new.prior c.finish.new.out) c.from_residual-in_err-files.result (incr_fault c.in_err-files.field-0.0) c.from_residual-in_err-files.ensures.1
    (finish_refused g.V.Vault (g.J.OfStore.tells ≡ true) (origin g.J.OfCrew.settings g.J.OfCrew.found g.J.OfCrew.sums g.J.OfRetention.limit) c.args.name.now c.args.when c.args.pass.now c.begin.new.pass c.send_all.new.pass c.args.prior.now c.look.new.prior c.args.out.now c.look.new.out c.send_all.new.out c.finish.new.out m c.in_ok-redo.redo c.in_ok-redo.basis c.in_ok-modified.modified
    c.in_ok-end.end c.in_ok-end.rows.items c.manifest.inside.start c.in_err-files.field-0.0 l c.look.ensures.spared c.look.ensures.later c.send_all.ensures.spares d (ap (λ (k : Listing). record { 0 = k.start }) c.manifest.view_is) c.in_err-files.ensures.cause
    (subst (λ (s : StoreSettings). LeavesManifest g.V.Vault ((count : ℕ) × Finishes s c.args.name.now c.args.when c.in_ok-modified.modified (g.V.Vault.files c.send_all.new.out) (g.V.Vault.files c.finish.new.out) c.in_ok-redo.redo (Some c.manifest.inside.start) c.in_ok-end.end c.in_ok-end.rows.items count) c.send_all.new.out
    c.finish.new.out c.in_err-files.field-0.0) c.settings-settings.ensures c.in_err-files.ensures.left))

pub returns-in_err-files-clause-looks : goal.returns-in_err-files-clause-looks
returns-in_err-files-clause-looks g c =
    looks_on c.args.pass.now c.begin.new.pass c.send_all.new.pass c.begin.ensures.looks c.send_all.ensures.looks

pub returns-clause-answer : goal.returns-clause-answer
returns-clause-answer g c =
    let sys : c.system.result ≡ g.J.OfCrew.settings.system = c.system.ensures.value ∙ ap (λ (s : StoreSettings). s.system) c.settings-settings.ensures in
    let m = c.in_ok-manifest.manifest in
    let l : IsLooked g.V.Vault (origin g.J.OfCrew.settings g.J.OfCrew.found g.J.OfCrew.sums g.J.OfRetention.limit) c.args.prior.now c.args.out.now m = looked g.V.Vault (origin g.J.OfCrew.settings g.J.OfCrew.found g.J.OfCrew.sums g.J.OfRetention.limit) c.args.prior.now c.args.out.now m c.system.result sys c.in_ok-manifest.ensures.empty c.in_ok-manifest.ensures.told c.in_ok-manifest.ensures.ours in
    let d : IsDone (g.J.OfStore.tells ≡ true) (origin g.J.OfCrew.settings g.J.OfCrew.found g.J.OfCrew.sums g.J.OfRetention.limit) c.args.when c.args.pass.now c.begin.new.pass c.send_all.new.pass (g.V.Vault.files c.send_all.new.out) m c.in_ok-redo.redo c.in_ok-redo.basis c.in_ok-modified.modified c.in_ok-end.end c.in_ok-end.rows.items =
    record { begun = c.in_ok-redo.ensures.begun; sent = c.in_ok-end.ensures.sent; first = c.begin.ensures.looks; on = c.send_all.ensures.looks } in
    record {
      taken =
          taken_incr g.V.Vault (g.J.OfStore.tells ≡ true) (origin g.J.OfCrew.settings g.J.OfCrew.found g.J.OfCrew.sums g.J.OfRetention.limit) c.args.name.now c.args.when c.args.pass.now c.begin.new.pass c.send_all.new.pass c.args.prior.now c.look.new.prior c.args.out.now c.send_all.new.out c.finish.new.out m c.in_ok-redo.redo c.in_ok-redo.basis c.in_ok-modified.modified c.in_ok-end.end
          c.in_ok-end.rows.items c.manifest.inside.start c.in_ok-files.files l d (ap (λ (k : Listing). record { 0 = k.start }) c.manifest.view_is)
          (subst (λ (s : StoreSettings). Finishes s c.args.name.now c.args.when c.in_ok-modified.modified (g.V.Vault.files c.send_all.new.out) (g.V.Vault.files c.finish.new.out) c.in_ok-redo.redo (Some c.manifest.inside.start) c.in_ok-end.end c.in_ok-end.rows.items c.in_ok-files.files) c.settings-settings.ensures
          c.in_ok-files.ensures.done);
      synced = c.in_ok-files.ensures.synced;
      empty = c.in_ok-manifest.ensures.empty;
    }

pub returns-clause-looks : goal.returns-clause-looks
returns-clause-looks g c =
    looks_on c.args.pass.now c.begin.new.pass c.send_all.new.pass c.begin.ensures.looks c.send_all.ensures.looks
