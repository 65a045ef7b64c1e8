use Rattle.std.proofs.Common.{sym}
use Rattle.backup_label.proofs.LineTexts.{is_line, not_cut}
use Rattle.backup_label.proofs.lines.value_line.Goals as goal

pub returns-in_default-cut_at-clause-none : goal.returns-in_default-cut_at-clause-none
returns-in_default-cut_at-clause-none c = not_cut c.args.key.now c.args.text.now c.in-Some.line.now c.in-Some.ensures.found (sym c.in_default-cut_at.ensures)

pub returns-clause-found : goal.returns-clause-found
returns-clause-found c = is_line c.args.key.now c.args.text.now c.in-Some.line.now c.in-Some-cut_at.value.now c.in-Some-cut_at.tail.now c.in-Some.ensures.found (sym c.in-Some-cut_at.ensures)
