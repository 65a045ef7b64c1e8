use Rattle.lsn_core.specs.Names.{IsLsnText}
use Rattle.backup_label.proofs.LineTexts.{other_value}
use Rattle.backup_label.proofs.lines.place_line.Goals as goal

pub returns-in-None-clause-none : goal.returns-in-None-clause-none
returns-in-None-clause-none c = λ at. other_value c.args.key.now c.in-Some.value.now c.args.text.now c.in-Some.tail.now (λ v. IsLsnText v at) c.in-Some.ensures.found (c.in-None.ensures.none at)
