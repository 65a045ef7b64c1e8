use Rattle.std.proofs.Common.{IfSome, ◌≡◌, ◌∙◌, List, Option, None, Result, Err, sym, ap, subst, length}
use Rattle.lsn_core.specs.byte_words.Told.{when_told, when_both_told}
use Rattle.lsn_core.specs.Files.{Files}
use Rattle.backup_label.specs.declared.label.Label.{Label}
use Rattle.manifest.specs.Listing.{Listing}
use Rattle.manifest.specs.declared.listing.FileRow.{FileRow}
use Rattle.chain_check.specs.Refusals.{rows_fault}
use Rattle.chain_check.specs.Inside.{RowsAnswer, BehindAnswer, ListedAnswer}
use Rattle.chain_check.specs.declared.refusal.Refusal.{Refusal}
use Rattle.chain_check.proofs.Counted.{passed_on, rows_refused, behind_refused}
use Rattle.chain_check.proofs.dir.listed_label.Goals as goal

pub returns-in_err-check_rows-clause-answer : goal.returns-in_err-check_rows-clause-answer
returns-in_err-check_rows-clause-answer g c =
    let refusal : Refusal = c.in_err-check_rows.field-0.0 in
    let rows = c.deref.ensures.value ∙ ap (λ (m : Listing). m.files) c.manifest.view_is in
    subst (λ (r : Result Label Refusal). IfSome (g.V.Vault.files c.args.area.now) (λ m. ListedAnswer m c.args.manifest.now r)) (sym (passed_on c.from_residual.result refusal c.from_residual.ensures))
    (when_told (g.V.Vault.files c.args.area.now) (λ m. RowsAnswer m c.deref.result.now (Err refusal)) (λ m. ListedAnswer m c.args.manifest.now (Err refusal))
    (λ m is. rows_refused m c.args.manifest.now refusal (subst (λ (x : List FileRow). RowsAnswer m x (Err refusal)) rows is))
    c.in_err-check_rows.ensures.answer)

pub returns-in-Err-clause-answer : goal.returns-in-Err-clause-answer
returns-in-Err-clause-answer g c =
    let manifest = c.args.manifest.now in
    let fault = c.in-Err.fault in
    let rows = c.deref.ensures.value ∙ ap (λ (m : Listing). m.files) c.manifest.view_is in
    let all = c.len.ensures ∙ (sym c.deref.ensures.len ∙ ap (λ (x : List FileRow). length x) rows) in
    let behind = subst (λ (o : Option Files). IfSome o (λ m. BehindAnswer m manifest (Err fault))) c.in_ok-check_rows.ensures.reads.files c.in-Err.ensures.answer in
    when_both_told (g.V.Vault.files c.args.area.now) (λ m. rows_fault m c.deref.result.now ≡ None) (λ m. BehindAnswer m manifest (Err fault)) (λ m. ListedAnswer m manifest (Err (record { fault = fault; checked = c.len.result })))
    (λ m none is. behind_refused m manifest fault c.len.result (subst (λ (x : List FileRow). rows_fault m x ≡ None) rows none) all is)
    c.in_ok-check_rows.ensures.answer behind
