use Rattle.std.proofs.Common.{sym}
use Rattle.std.proofs.lemmas.Option.{IfSome_then}
use Rattle.backup_label.proofs.LineTexts.{when_none}
use Rattle.backup_label.proofs.ValueTexts.{not_spaced, not_noted, not_file, not_place, is_start}
use Rattle.backup_label.proofs.values.start_in.Goals as goal

pub returns-in_default-clause-none : goal.returns-in_default-clause-none
returns-in_default-clause-none c = not_spaced c.args.value.now (sym c.in_default.ensures)

pub returns-in_default-file_in-clause-none : goal.returns-in_default-file_in-clause-none
returns-in_default-file_in-clause-none c = not_noted c.args.value.now c.in-Some.place.now c.in-Some.note.now (sym c.in-Some.ensures) c.in_default-file_in.ensures.none

pub returns-then-not-is_file_digits-clause-none : goal.returns-then-not-is_file_digits-clause-none
returns-then-not-is_file_digits-clause-none c =
    not_file c.args.value.now c.in-Some.place.now c.in-Some.note.now c.in-Some-file_in.file.now (sym c.in-Some.ensures) c.in-Some-file_in.ensures.found (sym c.if-not-is_file_digits.ensures)

pub returns-clause-found : goal.returns-clause-found
returns-clause-found c =
    IfSome_then c.lsn_read.result c.lsn_read.ensures.found
    (λ at says. is_start c.args.value.now c.in-Some.place.now c.in-Some.note.now c.in-Some-file_in.file.now at.0 (sym c.in-Some.ensures) c.in-Some-file_in.ensures.found (sym c.if-not-is_file_digits.ensures) says)

pub returns-clause-none : goal.returns-clause-none
returns-clause-none c = when_none c.lsn_read.result _ _ (not_place c.args.value.now c.in-Some.place.now c.in-Some.note.now (sym c.in-Some.ensures)) c.lsn_read.ensures.none
