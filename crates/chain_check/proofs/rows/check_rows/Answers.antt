use Rattle.std.proofs.Common.{◌≡◌, subst, take, drop, Option, Some, None, Err, IfSome}
use Rattle.std.specs.List.{AllByRecursion}
use Rattle.lsn_core.specs.byte_words.Told.{when_both_told}
use Rattle.lsn_core.specs.Files.{Files}
use Rattle.chain_check.specs.Refusals.{rows_fault}
use Rattle.chain_check.specs.Inside.{RowsAnswer}
use Rattle.chain_check.specs.Sizes.{IsSized, FirstAnswer, SizesAnswer}
use Rattle.chain_check.specs.declared.fault.ChainFault.{ChainFault}
use Rattle.chain_check.proofs.ForkFiles.{told_all}
use Rattle.chain_check.proofs.Sized.{size_refused, none_refused, handed_fault, handed_refusal}
use Rattle.chain_check.proofs.rows.check_rows.Goals as goal

pub returns-in_err-sized-clause-answer : goal.returns-in_err-sized-clause-answer
returns-in_err-sized-clause-answer g c =
    told_all (g.V.Vault.files c.args.area.now) _ (λ m. handed_fault m c.args.rows.now c.in_err-sized.field-0.0 c.from_residual.result c.from_residual.ensures.0 c.from_residual.ensures.1)

pub returns-in_err-check_sums-clause-answer : goal.returns-in_err-check_sums-clause-answer
returns-in_err-check_sums-clause-answer g c =
    let rows = c.args.rows.now in
    let n = c.in_ok-sized.sized in
    let refusal = c.in_err-check_sums.field-0.0 in
    let handed = c.from_residual-in_err-check_sums in
    when_both_told (g.V.Vault.files c.args.area.now) (λ m. SizesAnswer m rows n c.in_ok-sized.fault) (λ m. AllByRecursion (IsSized m) (take n rows) → RowsAnswer m (take n rows) (Err refusal)) _
    (λ m sizes sums. handed_refusal m rows n refusal handed.result handed.ensures.0 handed.ensures.1 (sums sizes.before))
    c.in_ok-sized.ensures.answer
    (subst (λ (o : Option Files). IfSome o (λ m. AllByRecursion (IsSized m) (take n rows) → RowsAnswer m (take n rows) (Err refusal))) c.in_ok-sized.ensures.reads.files c.in_err-check_sums.ensures.answer)

pub returns-in-Some-clause-answer : goal.returns-in-Some-clause-answer
returns-in-Some-clause-answer g c =
    let rows = c.args.rows.now in
    let n = c.in_ok-sized.sized in
    when_both_told (g.V.Vault.files c.args.area.now) (λ m. SizesAnswer m rows n c.in_ok-sized.fault) (λ m. AllByRecursion (IsSized m) (take n rows) → rows_fault m (take n rows) ≡ None) _
    (λ m sizes sums.
    size_refused m rows n c.in-Some.fault c.in_ok-sized.ensures.within (sums sizes.before) (subst (λ (o : Option ChainFault). FirstAnswer m (drop n rows) o) c.in-Some.is sizes.next))
    c.in_ok-sized.ensures.answer
    (subst (λ (o : Option Files). IfSome o (λ m. AllByRecursion (IsSized m) (take n rows) → rows_fault m (take n rows) ≡ None)) c.in_ok-sized.ensures.reads.files c.in_ok-check_sums.ensures.answer)

pub returns-in-Some-clause-cause : goal.returns-in-Some-clause-cause
returns-in-Some-clause-cause g c failed = absurd (c.in_ok-sized.ensures.file (subst (λ (f : ChainFault). c.in_ok-sized.fault ≡ Some f) failed c.in-Some.is))

pub returns-in-None-clause-answer : goal.returns-in-None-clause-answer
returns-in-None-clause-answer g c =
    let rows = c.args.rows.now in
    let n = c.in_ok-sized.sized in
    when_both_told (g.V.Vault.files c.args.area.now) (λ m. SizesAnswer m rows n c.in_ok-sized.fault) (λ m. AllByRecursion (IsSized m) (take n rows) → rows_fault m (take n rows) ≡ None) _
    (λ m sizes sums. none_refused m rows n (sums sizes.before) (subst (λ (o : Option ChainFault). FirstAnswer m (drop n rows) o) c.in-None.is sizes.next))
    c.in_ok-sized.ensures.answer
    (subst (λ (o : Option Files). IfSome o (λ m. AllByRecursion (IsSized m) (take n rows) → rows_fault m (take n rows) ≡ None)) c.in_ok-sized.ensures.reads.files c.in_ok-check_sums.ensures.answer)
