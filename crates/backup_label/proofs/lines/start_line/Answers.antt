use Rattle.backup_label.specs.Label.{Start, key_of, IsStartValue}
use Rattle.backup_label.proofs.LineTexts.{other_value}
use Rattle.backup_label.proofs.lines.start_line.Goals as goal

pub returns-in_default-clause-none : goal.returns-in_default-clause-none
returns-in_default-clause-none c = λ at tail has. c.in_default.ensures.none has.0 tail has.1

pub returns-in-None-clause-none : goal.returns-in-None-clause-none
returns-in-None-clause-none c = λ at. other_value (key_of Start) c.in-Some.value.now c.args.text.now c.in-Some.tail.now (λ v. IsStartValue v at) c.in-Some.ensures.found (c.in-None.ensures.none at)
