use Rattle.backup_label.proofs.ValueTexts.{too_large}
use Rattle.backup_label.proofs.values.timeline_in.Goals as goal

pub returns-then-number-gt4294967295-clause-none : goal.returns-then-number-gt4294967295-clause-none
returns-then-number-gt4294967295-clause-none c = too_large c.args.value.now c.in-Some.number c.in-Some.ensures.found c.in-Some.ensures.small c.if-number-gt4294967295.true
