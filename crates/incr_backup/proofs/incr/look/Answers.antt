use Rattle.store_faults.specs.Giving.{incr_fault}
use Rattle.incr_backup.specs.IncrSteps.{EarlyRefusal}
use Rattle.backup_files.proofs.Passed.{err_cause}
use Rattle.incr_backup.proofs.IncrAnswers.{look_failed, prior_failed, prior_told}
use Rattle.incr_backup.proofs.incr.look.Goals as goal

pub returns-in_err-check_empty-clause-refused : goal.returns-in_err-check_empty-clause-refused
returns-in_err-check_empty-clause-refused g c =
    err_cause c.from_residual.result (incr_fault c.in_err-check_empty.field-0.0) (EarlyRefusal g.V.Vault c.args.system c.args.prior.now c.args.prior.now c.args.out.now c.check_empty.new.out) c.from_residual.ensures.1
    (look_failed g.V.Vault c.args.system c.args.prior.now c.args.prior.now c.args.out.now c.check_empty.new.out c.in_err-check_empty.field-0.0 c.in_err-check_empty.ensures.cause)

pub returns-clause-told : goal.returns-clause-told
returns-clause-told g c = prior_told (g.V.Vault.files c.args.prior.now) c.args.system c.read_prior.result c.read_prior.ensures.answer

pub returns-clause-refused : goal.returns-clause-refused
returns-clause-refused g c =
    prior_failed g.V.Vault c.args.system c.args.prior.now c.read_prior.new.prior c.args.out.now c.check_empty.new.out c.read_prior.result c.in_ok-check_empty.ensures.empty c.read_prior.ensures.answer c.read_prior.ensures.cause
