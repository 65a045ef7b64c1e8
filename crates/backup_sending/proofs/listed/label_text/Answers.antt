use Rattle.std.proofs.Common.{◌≡◌, ℕ, List, Option, ap, subst, ◌∙◌, arith}
use Rattle.lsn_core.specs.Segment.{IsSegmentMib}
use Rattle.lsn_core.specs.declared.lsn.Lsn.{Lsn}
use Rattle.backup_label.specs.declared.label.Label.{Label}
use Rattle.backup_label.specs.Label.{label_text}
use Rattle.backup_sending.specs.Inside.{IsLabelOf}
use Rattle.backup_files.proofs.Passed.{ok_more}
use Rattle.backup_sending.proofs.Labels.{label_says}
use Rattle.backup_sending.proofs.listed.label_text.Goals as goal

pub returns : goal.returns
returns c =
    let redo = c.args.redo in
    let begun = c.in_ok-time_text.field-0 in
    let label : List ℕ → Option (Lsn × ℕ) → Label = λ name prior. record { start = redo.redo; checkpoint = redo.at; time = begun; label = name; timeline = 1; prior = prior } in
    ok_more c.write_label.result (λ text. text.items ≡ label_text (label c.in_ok-copied.field-0 c.on_first.result) c.segment.result)
    (λ text. IsLabelOf c.args.settings redo c.args.prior c.args.name.now c.args.when text.items)
    (λ text is.
    label_says c.written_labels_are_read.ensures.written c.written_labels_are_read.ensures.times c.args.settings redo c.args.prior c.args.name.now c.args.when begun text.items (subst IsSegmentMib c.segment.ensures.value c.segment.ensures.range) c.requires.segment (omega arith) (omega arith)
    c.on_first.ensures.fits c.in_ok-time_text.ensures
    (is ∙ (ap (λ (n : ℕ). label_text (label c.in_ok-copied.field-0 c.on_first.result) n) c.segment.ensures.value
    ∙ (ap (λ (x : List ℕ). label_text (label x c.on_first.result) c.args.settings.segment) (c.in_ok-copied.ensures ∙ c.as_bytes.ensures) ∙ ap (λ (p : Option (Lsn × ℕ)). label_text (label c.args.name.now p) c.args.settings.segment) c.on_first.ensures.same))))
    c.write_label.ensures
