use Rattle.std.proofs.Common.{rules, ◌≡◌, ◌≢◌, [], length}
use Rattle.backup_label.proofs.LineTexts.{nothing}
use Rattle.backup_label.proofs.Refusals.{refuse_prior, refuse_prior_timeline, refuse_more, prior_is}
use Rattle.backup_label.proofs.reading.prior_lines.Goals as goal

pub returns-in_default : goal.returns-in_default
returns-in_default c =
    let more : c.args.text.now ≢ [] = search rules in
    refuse_prior c.args.text.now more c.in_default.ensures.none

pub returns-in_default-timeline_line : goal.returns-in_default-timeline_line
returns-in_default-timeline_line c = refuse_prior_timeline c.args.text.now c.in-Some.text.now c.in-Some.start c.in-Some.ensures.found c.in_default-timeline_line.ensures.none

pub returns-then-not-is_empty : goal.returns-then-not-is_empty
returns-then-not-is_empty c =
    let more : c.in-Some-timeline_line.text.now ≢ [] = search rules in
    refuse_more c.args.text.now c.in-Some.text.now c.in-Some-timeline_line.text.now c.in-Some.start c.in-Some-timeline_line.timeline c.in-Some.ensures.found c.in-Some-timeline_line.ensures.found more

pub returns : goal.returns
returns c =
    let none : length c.in-Some-timeline_line.text.now ≡ 0 = search rules in
    prior_is c.args.text.now c.in-Some.text.now c.in-Some-timeline_line.text.now c.in-Some.start c.in-Some-timeline_line.timeline c.in-Some.ensures.found c.in-Some-timeline_line.ensures.found (nothing c.in-Some-timeline_line.text.now none)
