use Rattle.std.proofs.Common.{◌≡◌, ◌≤◌, ℕ, true, ap, subst, ◌∙◌, arith}
use Rattle.lsn_core.specs.Segment.{StoreSettings}
use Rattle.timeline.proofs.Prefixes.{prefix_refl, prefix_trans}
use Rattle.shared_store.proofs.SharedLaws.{checkpoint_leaves}
use Rattle.backup_sending.proofs.Runs.{checkpoint_failed, copying_failed, ending_failed, is_run}
use Rattle.backup_sending.proofs.Steps.{looks_less, looks_on, mark_looks}
use Rattle.backup_sending.proofs.full.run_backup.Goals as goal

-- ---- the checkpoint failed

pub returns-in_err-redo-clause-looks : goal.returns-in_err-redo-clause-looks
returns-in_err-redo-clause-looks g c =
    looks_less 3 c.args.pass.now c.checkpoint.new.pass (omega arith)
    (mark_looks c.args.pass.now c.checkpoint.new.pass c.checkpoint.result c.checkpoint.ensures.seen c.checkpoint.ensures.accepted c.checkpoint.ensures.marks c.checkpoint.ensures.faults)

pub returns-in_err-redo-clause-cause : goal.returns-in_err-redo-clause-cause
returns-in_err-redo-clause-cause g c =
    checkpoint_failed g.V.Vault g.J.OfCrew.settings.segment c.args.pass.now c.checkpoint.new.pass c.args.out.now c.from_residual.result c.in_err-redo.field-0.0 c.from_residual.ensures.1 c.in_err-redo.ensures.full c.in_err-redo.ensures.faults

-- ---- copying failed

pub copy_store-requires-clause-redo : goal.copy_store-requires-clause-redo
copy_store-requires-clause-redo g c = λ κs lives. checkpoint_leaves c.args.pass.now.worker c.args.pass.now.list c.checkpoint.new.pass.list c.in_ok-redo.redo c.in_ok-redo.field-0-1 c.in_ok-redo.ensures.done

pub returns-in_err-rows-clause-looks : goal.returns-in_err-rows-clause-looks
returns-in_err-rows-clause-looks g c =
    looks_less 3 c.args.pass.now c.copy_store.new.pass (omega arith)
    (looks_on c.args.pass.now c.checkpoint.new.pass c.copy_store.new.pass (mark_looks c.args.pass.now c.checkpoint.new.pass c.checkpoint.result c.checkpoint.ensures.seen c.checkpoint.ensures.accepted c.checkpoint.ensures.marks c.checkpoint.ensures.faults) c.copy_store.ensures.copies_on.looks)

pub returns-in_err-rows-clause-cause : goal.returns-in_err-rows-clause-cause
returns-in_err-rows-clause-cause g c =
    copying_failed g.V.Vault g.J.OfCrew.settings.segment c.args.pass.now c.checkpoint.new.pass c.copy_store.new.pass c.args.out.now c.copy_store.new.out c.from_residual-in_err-rows.result c.in_err-rows.field-0.0 c.from_residual-in_err-rows.ensures.1
    (mark_looks c.args.pass.now c.checkpoint.new.pass c.checkpoint.result c.checkpoint.ensures.seen c.checkpoint.ensures.accepted c.checkpoint.ensures.marks c.checkpoint.ensures.faults) c.in_err-rows.ensures.cause

-- ---- its end failed

pub returns-in_err-end-clause-looks : goal.returns-in_err-end-clause-looks
returns-in_err-end-clause-looks g c =
    let first = mark_looks c.args.pass.now c.checkpoint.new.pass c.checkpoint.result c.checkpoint.ensures.seen c.checkpoint.ensures.accepted c.checkpoint.ensures.marks c.checkpoint.ensures.faults in
    let on = looks_on c.args.pass.now c.checkpoint.new.pass c.copy_store.new.pass first c.copy_store.ensures.copies_on.looks in
    looks_on c.args.pass.now c.copy_store.new.pass c.end_backup.new.pass on (mark_looks c.copy_store.new.pass c.end_backup.new.pass c.end_backup.result c.end_backup.ensures.seen c.end_backup.ensures.accepted c.end_backup.ensures.marks c.end_backup.ensures.faults)

pub returns-in_err-end-clause-cause : goal.returns-in_err-end-clause-cause
returns-in_err-end-clause-cause g c =
    let first = mark_looks c.args.pass.now c.checkpoint.new.pass c.checkpoint.result c.checkpoint.ensures.seen c.checkpoint.ensures.accepted c.checkpoint.ensures.marks c.checkpoint.ensures.faults in
    let on = looks_on c.args.pass.now c.checkpoint.new.pass c.copy_store.new.pass first c.copy_store.ensures.copies_on.looks in
    ending_failed g.V.Vault g.J.OfCrew.settings.segment c.args.pass.now c.copy_store.new.pass c.end_backup.new.pass c.checkpoint.new.pass.list c.args.out.now c.copy_store.new.out c.in_ok-redo.redo c.in_ok-redo.field-0-1 c.from_residual-in_err-end.result c.in_err-end.field-0.0
    c.from_residual-in_err-end.ensures.1 c.in_ok-redo.ensures.done (prefix_trans c.checkpoint.new.pass.list c.copy_store.new.pass.list c.end_backup.new.pass.list c.copy_store.ensures.copies_on.looks.stays.seen c.end_backup.ensures.seen.seen) on
    c.in_err-end.ensures.full c.in_err-end.ensures.faults

-- ---- all was done

pub returns-clause-run : goal.returns-clause-run
returns-clause-run g c =
    is_run (g.J.OfStore.tells ≡ true) g.J.OfCrew.settings c.args.pass.now c.checkpoint.new.pass c.copy_store.new.pass c.end_backup.new.pass c.copy_store.new.pass.list c.args.modified.now (g.V.Vault.files c.copy_store.new.out) c.in_ok-redo.redo c.in_ok-end.end c.in_ok-redo.field-0-1
    c.in_ok-end.field-0-1 c.in_ok-rows.rows.items c.in_ok-redo.ensures.done (mark_looks c.args.pass.now c.checkpoint.new.pass c.checkpoint.result c.checkpoint.ensures.seen c.checkpoint.ensures.accepted c.checkpoint.ensures.marks c.checkpoint.ensures.faults) c.copy_store.ensures.copies_on.looks
    (prefix_refl c.copy_store.new.pass.list) c.in_ok-rows.ensures.copied c.in_ok-end.ensures.done c.end_backup.ensures.seen.seen c.in_ok-end.ensures.placed
    (subst (λ (n : ℕ). 1 ≤ n) (c.segment-size.ensures.value ∙ ap (λ (s : StoreSettings). s.segment) c.settings.ensures) c.segment-size.ensures.range.least)

pub returns-clause-looks : goal.returns-clause-looks
returns-clause-looks g c =
    let first = mark_looks c.args.pass.now c.checkpoint.new.pass c.checkpoint.result c.checkpoint.ensures.seen c.checkpoint.ensures.accepted c.checkpoint.ensures.marks c.checkpoint.ensures.faults in
    let on = looks_on c.args.pass.now c.checkpoint.new.pass c.copy_store.new.pass first c.copy_store.ensures.copies_on.looks in
    looks_on c.args.pass.now c.copy_store.new.pass c.end_backup.new.pass on (mark_looks c.copy_store.new.pass c.end_backup.new.pass c.end_backup.result c.end_backup.ensures.seen c.end_backup.ensures.accepted c.end_backup.ensures.marks c.end_backup.ensures.faults)
