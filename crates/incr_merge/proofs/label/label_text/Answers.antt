use Rattle.std.proofs.Common.{◌∙◌, Option, ap₂, subst}
use Rattle.lsn_core.specs.Files.{Files}
use Rattle.vault.specs.Whole.{HoldsFile}
use Rattle.backup_files.proofs.Passed.{err_cause}
use Rattle.chain_files.specs.Told.{told_at, FailsAt}
use Rattle.chain_files.proofs.Told.{fails_later, reads_told_at, reads_trans}
use Rattle.merge_laws.specs.Merged.{merged_label}
use Rattle.incr_merge.proofs.Kept.{label_told}
use Rattle.incr_merge.proofs.label.label_text.Goals as goal

pub returns-in_err-last-clause-reads : goal.returns-in_err-last-clause-reads
returns-in_err-last-clause-reads g c = reads_trans g.V.Vault c.args.areas.now c.whole_at.new.areas c.whole_at-2.new.areas c.whole_at.ensures.reads c.whole_at-2.ensures.reads

pub returns-in_err-last-clause-cause : goal.returns-in_err-last-clause-cause
returns-in_err-last-clause-cause g c =
    err_cause c.from_residual-in_err-last.result c.in_err-last.field-0.0 (FailsAt g.V.Vault c.args.areas.now c.whole_at-2.new.areas) c.from_residual-in_err-last.ensures.1
    (fails_later g.V.Vault c.args.areas.now c.whole_at.new.areas c.whole_at-2.new.areas c.in_err-last.field-0.0 c.whole_at.ensures.reads c.in_err-last.ensures.cause)

pub returns-in_err-merged_label-clause-reads : goal.returns-in_err-merged_label-clause-reads
returns-in_err-merged_label-clause-reads g c = reads_trans g.V.Vault c.args.areas.now c.whole_at.new.areas c.whole_at-2.new.areas c.whole_at.ensures.reads c.whole_at-2.ensures.reads

pub returns-clause-reads : goal.returns-clause-reads
returns-clause-reads g c = reads_trans g.V.Vault c.args.areas.now c.whole_at.new.areas c.whole_at-2.new.areas c.whole_at.ensures.reads c.whole_at-2.ensures.reads

pub returns-clause-text : goal.returns-clause-text
returns-clause-text g c =
    label_told (told_at g.V.Vault c.args.areas.now c.args.oldest) (told_at g.V.Vault c.args.areas.now c.args.newest) c.args.path.now c.in_ok-first.first.items c.in_ok-last.last.items c.in_ok-merged_label.field-0.items c.in_ok-first.ensures.bytes
    (subst (λ (o : Option Files). HoldsFile o c.args.path.now c.in_ok-last.last.items) (reads_told_at g.V.Vault c.args.areas.now c.whole_at.new.areas c.whole_at.ensures.reads c.args.newest) c.in_ok-last.ensures.bytes)
    (c.in_ok-merged_label.ensures ∙ ap₂ merged_label c.deref.ensures.value c.deref-2.ensures.value)
