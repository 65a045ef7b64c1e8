use Rattle.backup_label.proofs.Refusals.{refuse_time, refuse_name, refuse_timeline, middle_is}
use Rattle.backup_label.proofs.reading.middle_lines.Goals as goal

pub returns-in_default : goal.returns-in_default
returns-in_default c = refuse_time c.args.text.now c.in_default.ensures.none

pub returns-in_default-value_line : goal.returns-in_default-value_line
returns-in_default-value_line c = refuse_name c.args.text.now c.in-Some.text.now c.in-Some.time.now c.in-Some.ensures.found c.in_default-value_line.ensures.none

pub returns-in_default-timeline_line : goal.returns-in_default-timeline_line
returns-in_default-timeline_line c =
    refuse_timeline c.args.text.now c.in-Some.text.now c.in-Some-value_line.text.now c.in-Some.time.now c.in-Some-value_line.label.now c.in-Some.ensures.found c.in-Some-value_line.ensures.found c.in_default-timeline_line.ensures.none

pub returns : goal.returns
returns c =
    middle_is c.args.text.now c.in-Some.text.now c.in-Some-value_line.text.now c.in-Some-timeline_line.text.now c.in-Some.time.now c.in-Some-value_line.label.now c.in-Some-timeline_line.timeline c.in-Some.ensures.found c.in-Some-value_line.ensures.found
    c.in-Some-timeline_line.ensures.found
