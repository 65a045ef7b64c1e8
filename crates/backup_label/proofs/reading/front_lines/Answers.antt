use Rattle.backup_label.proofs.Refusals.{refuse_start, refuse_checkpoint, refuse_method, refuse_from, front_is}
use Rattle.backup_label.proofs.reading.front_lines.Goals as goal

pub returns-in_default : goal.returns-in_default
returns-in_default c = refuse_start c.args.text.now c.in_default.ensures.none

pub returns-in_default-place_line : goal.returns-in_default-place_line
returns-in_default-place_line c = refuse_checkpoint c.args.text.now c.in-Some.text.now c.in-Some.start c.in-Some.ensures.found c.in_default-place_line.ensures.none

pub returns-in_default-fixed_line : goal.returns-in_default-fixed_line
returns-in_default-fixed_line c =
    refuse_method c.args.text.now c.in-Some.text.now c.in-Some-place_line.text.now c.in-Some.start c.in-Some-place_line.checkpoint c.in-Some.ensures.found c.in-Some-place_line.ensures.found c.in_default-fixed_line.ensures.none

pub returns-in_default-fixed_line-2 : goal.returns-in_default-fixed_line-2
returns-in_default-fixed_line-2 c =
    refuse_from c.args.text.now c.in-Some.text.now c.in-Some-place_line.text.now c.in-Some-fixed_line.text.now c.in-Some.start c.in-Some-place_line.checkpoint c.in-Some.ensures.found c.in-Some-place_line.ensures.found c.in-Some-fixed_line.ensures.found
    c.in_default-fixed_line-2.ensures.none

pub returns : goal.returns
returns c =
    front_is c.args.text.now c.in-Some.text.now c.in-Some-place_line.text.now c.in-Some-fixed_line.text.now c.in-Some-fixed_line-2.text.now c.in-Some.start c.in-Some-place_line.checkpoint c.in-Some.ensures.found c.in-Some-place_line.ensures.found
    c.in-Some-fixed_line.ensures.found c.in-Some-fixed_line-2.ensures.found
