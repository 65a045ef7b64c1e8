-- Behind the key the first line is the number's text.
use Rattle.std.proofs.Common.{sym}
use Rattle.wal_reader.proofs.SettingsText.{not_cut, not_number, is_number_line}
use Rattle.wal_reader.proofs.settings.number_line.Goals as goal

pub returns-in_default-cut_at-clause-none : goal.returns-in_default-cut_at-clause-none
returns-in_default-cut_at-clause-none c = not_cut c.args.key.now c.args.bytes.now c.in-Some.line.now c.in-Some.ensures.found (sym c.in_default-cut_at.ensures)

pub returns-in-Some-decimal_in-clause-found : goal.returns-in-Some-decimal_in-clause-found
returns-in-Some-decimal_in-clause-found c =
    is_number_line c.args.key.now c.args.bytes.now c.in-Some.line.now c.in-Some-cut_at.text.now c.in-Some-cut_at.tail.now c.in-Some-decimal_in.number c.in-Some.ensures.found (sym c.in-Some-cut_at.ensures) c.in-Some-decimal_in.ensures.found

pub returns-in-None-clause-none : goal.returns-in-None-clause-none
returns-in-None-clause-none c =
    not_number c.args.key.now c.args.bytes.now c.in-Some.line.now c.in-Some-cut_at.text.now c.in-Some-cut_at.tail.now c.in-Some.ensures.found (sym c.in-Some-cut_at.ensures) c.in-None.ensures.none
