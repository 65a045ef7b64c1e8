use Rattle.std.proofs.Common.{◌≡◌, true, ap, refl, ◌∙◌}
use Rattle.lsn_core.specs.Segment.{StoreSettings}
use Rattle.shared_store.proofs.SharedLaws.{checkpoint_leaves}
use Rattle.incr_backup.specs.Incr.{origin}
use Rattle.store_faults.specs.Giving.{incr_fault}
use Rattle.store_faults.specs.Giving.{mark_fault}
use Rattle.incr_backup.specs.IncrSteps.{BeginRefusal}
use Rattle.backup_files.proofs.Passed.{err_cause}
use Rattle.incr_backup.proofs.IncrAnswers.{begin_failed, has_begun, mark_refused}
use Rattle.backup_sending.proofs.Steps.{looks_on, mark_looks, redo_on}
use Rattle.incr_backup.proofs.incr.begin.Goals as goal

pub returns-in_err-redo-clause-looks : goal.returns-in_err-redo-clause-looks
returns-in_err-redo-clause-looks g c = mark_looks c.args.pass.now c.checkpoint.new.pass c.checkpoint.result c.checkpoint.ensures.seen c.checkpoint.ensures.accepted c.checkpoint.ensures.marks c.checkpoint.ensures.faults

pub returns-in_err-redo-clause-refused : goal.returns-in_err-redo-clause-refused
returns-in_err-redo-clause-refused g c =
    err_cause c.from_residual.result (incr_fault (mark_fault c.in_err-redo.field-0.0)) (BeginRefusal (g.J.OfStore.tells ≡ true) (origin g.J.OfCrew.settings g.J.OfCrew.found g.J.OfCrew.sums g.J.OfRetention.limit) c.args.when c.args.pass.now c.checkpoint.new.pass c.args.prior) c.from_residual.ensures.1
    (mark_refused (g.J.OfStore.tells ≡ true) (origin g.J.OfCrew.settings g.J.OfCrew.found g.J.OfCrew.sums g.J.OfRetention.limit) c.args.when c.args.pass.now c.checkpoint.new.pass c.args.prior c.in_err-redo.field-0.0 c.in_err-redo.ensures.full c.in_err-redo.ensures.faults)

pub returns-in_err-summary-clause-looks : goal.returns-in_err-summary-clause-looks
returns-in_err-summary-clause-looks g c =
    looks_on c.args.pass.now c.checkpoint.new.pass c.sum_up.new.pass (mark_looks c.args.pass.now c.checkpoint.new.pass c.checkpoint.result c.checkpoint.ensures.seen c.checkpoint.ensures.accepted c.checkpoint.ensures.marks c.checkpoint.ensures.faults) c.sum_up.ensures.looks

pub returns-in_err-summary-clause-refused : goal.returns-in_err-summary-clause-refused
returns-in_err-summary-clause-refused g c =
    err_cause c.from_residual-in_err-summary.result c.in_err-summary.field-0.0 (BeginRefusal (g.J.OfStore.tells ≡ true) (origin g.J.OfCrew.settings g.J.OfCrew.found g.J.OfCrew.sums g.J.OfRetention.limit) c.args.when c.args.pass.now c.sum_up.new.pass c.args.prior) c.from_residual-in_err-summary.ensures.1
    (begin_failed (g.J.OfStore.tells ≡ true) (origin g.J.OfCrew.settings g.J.OfCrew.found g.J.OfCrew.sums g.J.OfRetention.limit) c.args.when c.args.pass.now c.checkpoint.new.pass c.sum_up.new.pass c.args.prior c.in_ok-redo.redo c.in_ok-redo.field-0-1 c.in_err-summary.field-0.0 c.in_ok-redo.ensures.done
    (mark_looks c.args.pass.now c.checkpoint.new.pass c.checkpoint.result c.checkpoint.ensures.seen c.checkpoint.ensures.accepted c.checkpoint.ensures.marks c.checkpoint.ensures.faults) c.sum_up.ensures.looks c.in_err-summary.ensures.answer)

pub returns-clause-looks : goal.returns-clause-looks
returns-clause-looks g c =
    looks_on c.args.pass.now c.checkpoint.new.pass c.sum_up.new.pass (mark_looks c.args.pass.now c.checkpoint.new.pass c.checkpoint.result c.checkpoint.ensures.seen c.checkpoint.ensures.accepted c.checkpoint.ensures.marks c.checkpoint.ensures.faults) c.sum_up.ensures.looks

pub returns-clause-redo : goal.returns-clause-redo
returns-clause-redo g c =
    redo_on c.checkpoint.new.pass c.sum_up.new.pass c.in_ok-redo.redo.redo.0 c.sum_up.ensures.looks (checkpoint_leaves c.args.pass.now.worker c.args.pass.now.list c.checkpoint.new.pass.list c.in_ok-redo.redo c.in_ok-redo.field-0-1 c.in_ok-redo.ensures.done)

pub returns-clause-begun : goal.returns-clause-begun
returns-clause-begun g c =
    has_begun (g.J.OfStore.tells ≡ true) (origin g.J.OfCrew.settings g.J.OfCrew.found g.J.OfCrew.sums g.J.OfRetention.limit) c.args.when c.args.pass.now c.checkpoint.new.pass c.sum_up.new.pass c.args.prior c.in_ok-redo.redo c.in_ok-redo.field-0-1 _ c.in_ok-redo.ensures.done c.sum_up.ensures.looks
    (c.relseg-relseg.ensures.value ∙ ap (λ (s : StoreSettings). s.relseg) c.settings.ensures) refl c.in_ok-summary.ensures.answer
