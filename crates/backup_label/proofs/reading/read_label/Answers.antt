use Rattle.std.proofs.Common.{rules, Err}
use Rattle.backup_label.specs.Label.{LabelAnswer}
use Rattle.backup_label.proofs.Refusals.{front_read, middle_read, refused_middle, refused_prior, read_whole}
use Rattle.backup_label.proofs.reading.read_label.Goals as goal

pub returns-in_err-time : goal.returns-in_err-time
returns-in_err-time c =
    let told : LabelAnswer c.args.bytes.now (Err c.in_err-time.field-0.0) =
    refused_middle c.args.bytes.now c.in_ok-start.text.now c.in_err-time.field-0.0 (front_read c.in_ok-start.start c.in_ok-start.checkpoint c.args.bytes.now c.in_ok-start.text.now c.in_ok-start.ensures) c.in_err-time.ensures in
    search rules

pub returns-in_err-prior : goal.returns-in_err-prior
returns-in_err-prior c =
    let told : LabelAnswer c.args.bytes.now (Err c.in_err-prior.field-0.0) =
    refused_prior c.args.bytes.now c.in_ok-start.text.now c.in_ok-time.text.now c.in_err-prior.field-0.0 (front_read c.in_ok-start.start c.in_ok-start.checkpoint c.args.bytes.now c.in_ok-start.text.now c.in_ok-start.ensures)
    (middle_read c.in_ok-time.time.now c.in_ok-time.label.now c.in_ok-time.timeline c.in_ok-start.text.now c.in_ok-time.text.now c.in_ok-time.ensures) c.in_err-prior.ensures in
    search rules

pub returns : goal.returns
returns c =
    rw (c.in_ok-copied.ensures, c.in_ok-copied-2.ensures)
    (read_whole c.in_ok-start.start c.in_ok-start.checkpoint c.in_ok-time.time.now c.in_ok-time.label.now c.in_ok-time.timeline c.in_ok-prior.prior c.args.bytes.now c.in_ok-start.text.now c.in_ok-time.text.now c.in_ok-start.ensures c.in_ok-time.ensures c.in_ok-prior.ensures)
