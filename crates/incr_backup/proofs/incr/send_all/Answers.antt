use Rattle.std.proofs.Common.{◌≡◌, ◌≤◌, ℕ, true, ap, subst, ◌∙◌, arith}
use Rattle.lsn_core.specs.Segment.{StoreSettings}
use Rattle.backup_sending.specs.Backup.{site_of}
use Rattle.incr_backup.proofs.IncrAnswers.{copy_refused, end_refused, sent_whole}
use Rattle.backup_sending.proofs.Steps.{looks_less, looks_on, mark_looks}
use Rattle.incr_backup.proofs.incr.send_all.Goals as goal

pub returns-in_err-rows-clause-looks : goal.returns-in_err-rows-clause-looks
returns-in_err-rows-clause-looks g c = looks_less 1 c.args.pass.now c.send_store.new.pass (omega arith) c.send_store.ensures.copies_on.looks

pub returns-in_err-rows-clause-refused : goal.returns-in_err-rows-clause-refused
returns-in_err-rows-clause-refused g c =
    copy_refused g.V.Vault g.J.OfCrew.settings.segment c.args.redo (site_of c.args.pass.now c.args.out.now) (site_of c.send_store.new.pass c.send_store.new.out) c.from_residual.result c.in_err-rows.field-0.0 c.from_residual.ensures.1 c.in_err-rows.ensures.cause

pub returns-in_err-end-clause-looks : goal.returns-in_err-end-clause-looks
returns-in_err-end-clause-looks g c =
    looks_on c.args.pass.now c.send_store.new.pass c.end_backup.new.pass c.send_store.ensures.copies_on.looks (mark_looks c.send_store.new.pass c.end_backup.new.pass c.end_backup.result c.end_backup.ensures.seen c.end_backup.ensures.accepted c.end_backup.ensures.marks c.end_backup.ensures.faults)

pub returns-in_err-end-clause-refused : goal.returns-in_err-end-clause-refused
returns-in_err-end-clause-refused g c =
    end_refused g.V.Vault g.J.OfCrew.settings.segment c.args.redo c.args.pass.now c.send_store.new.pass c.end_backup.new.pass c.args.out.now c.send_store.new.out c.from_residual-in_err-end.result c.in_err-end.field-0.0 c.from_residual-in_err-end.ensures.1
    c.send_store.ensures.copies_on.looks c.in_err-end.ensures.full c.in_err-end.ensures.faults

pub returns-clause-looks : goal.returns-clause-looks
returns-clause-looks g c =
    looks_on c.args.pass.now c.send_store.new.pass c.end_backup.new.pass c.send_store.ensures.copies_on.looks (mark_looks c.send_store.new.pass c.end_backup.new.pass c.end_backup.result c.end_backup.ensures.seen c.end_backup.ensures.accepted c.end_backup.ensures.marks c.end_backup.ensures.faults)

pub returns-clause-sent : goal.returns-clause-sent
returns-clause-sent g c =
    sent_whole (g.J.OfStore.tells ≡ true) g.J.OfCrew.settings.segment c.args.pass.now c.send_store.new.pass c.end_backup.new.pass c.args.basis.now c.args.modified.now (g.V.Vault.files c.send_store.new.out) c.args.redo c.in_ok-end.end c.in_ok-end.field-0-1 c.in_ok-rows.rows.items
    c.send_store.ensures.copies_on.looks c.in_ok-rows.ensures.sent c.in_ok-end.ensures.done c.in_ok-end.ensures.placed
    (subst (λ (n : ℕ). 1 ≤ n) (c.segment-size.ensures.value ∙ ap (λ (s : StoreSettings). s.segment) c.settings.ensures) c.segment-size.ensures.range.least)
