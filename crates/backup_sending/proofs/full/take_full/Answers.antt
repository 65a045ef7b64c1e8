use Rattle.std.proofs.Common.{◌≡◌, true, None, subst, arith}
use Rattle.lsn_core.specs.Segment.{IsRelseg, StoreSettings}
use Rattle.backup_sending.specs.Inside.{Finishes}
use Rattle.backup_sending.proofs.Steps.{looks_less, looks_still}
use Rattle.backup_sending.proofs.Whole.{can_finish, finish_left, taken_full}
use Rattle.backup_sending.proofs.full.take_full.Goals as goal

pub returns-in_err-check_empty-clause-looks : goal.returns-in_err-check_empty-clause-looks
returns-in_err-check_empty-clause-looks g c = looks_less 3 c.args.pass.now c.args.pass.now (omega arith) (looks_still c.args.pass.now)

pub returns-in_err-modified-clause-looks : goal.returns-in_err-modified-clause-looks
returns-in_err-modified-clause-looks g c = looks_less 3 c.args.pass.now c.args.pass.now (omega arith) (looks_still c.args.pass.now)

pub finish-requires-clause-run : goal.finish-requires-clause-run
finish-requires-clause-run g c = λ κs lives.
    can_finish (g.J.OfStore.tells ≡ true) g.J.OfCrew.settings c.args.pass.now c.run_backup.new.pass c.in_ok-modified.modified (g.V.Vault.files c.run_backup.new.out) c.in_ok-redo.redo c.in_ok-redo.end c.in_ok-redo.rows.items c.settings-settings.result
    c.settings-settings.ensures (record { least = omega arith; most = omega arith }) c.in_ok-redo.ensures.run

pub returns-in_err-files-clause-manifest : goal.returns-in_err-files-clause-manifest
returns-in_err-files-clause-manifest g c =
    finish_left g.V.Vault (g.J.OfStore.tells ≡ true) g.J.OfCrew.settings c.args.name.now c.args.when c.args.pass.now c.run_backup.new.pass c.in_ok-modified.modified c.args.out.now c.check_empty.new.out c.run_backup.new.out c.finish.new.out
    c.in_ok-redo.redo c.in_ok-redo.end c.in_ok-redo.rows.items c.settings-settings.result c.from_residual-in_err-files.result c.in_err-files.field-0.0 c.from_residual-in_err-files.ensures.1 c.settings-settings.ensures (record { least = omega arith; most = omega arith }) c.check_empty.ensures.same
    c.check_empty.ensures.later c.run_backup.ensures.spares c.in_ok-redo.ensures.run c.in_err-files.ensures.left

pub returns-clause-taken : goal.returns-clause-taken
returns-clause-taken g c =
    taken_full (g.J.OfStore.tells ≡ true) g.J.OfCrew.settings c.args.name.now c.args.when c.args.pass.now c.run_backup.new.pass c.in_ok-modified.modified (g.V.Vault.files c.run_backup.new.out) (g.V.Vault.files c.finish.new.out)
    c.in_ok-redo.redo c.in_ok-redo.end c.in_ok-redo.rows.items c.in_ok-files.files (subst (λ (s : StoreSettings). IsRelseg s.relseg) c.settings-settings.ensures (record { least = omega arith; most = omega arith })) c.in_ok-redo.ensures.run
    (subst (λ (s : StoreSettings). Finishes s c.args.name.now c.args.when c.in_ok-modified.modified (g.V.Vault.files c.run_backup.new.out) (g.V.Vault.files c.finish.new.out) c.in_ok-redo.redo None c.in_ok-redo.end c.in_ok-redo.rows.items c.in_ok-files.files)
    c.settings-settings.ensures c.in_ok-files.ensures.done)
